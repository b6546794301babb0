-- That the record which a row makes can exist.
use Rattle.line.specs.declared.row.Row.{Row}
use Rattle.line.specs.Rows.{Legal, made}

pub made_legal : (r : Row) → Legal (made r)
made_legal r = record { follows = λ e. rw e; gated = λ e h. rw (e, h) }
