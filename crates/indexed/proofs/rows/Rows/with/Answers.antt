use Rattle.std.proofs.Common.{sym}
use Rattle.indexed.proofs.Finding.{with_at, with_none}
use Rattle.indexed.proofs.rows.Rows.with.Goals as goal

pub returns-in-Ok : goal.returns-in-Ok
returns-in-Ok c = rw c.as_slice.ensures.value (sym (with_at c.args.self.now.list.items c.args.self.now.rising c.args.phandle c.in-Ok.at c.in-Ok.ensures.found))

pub returns-in-Err : goal.returns-in-Err
returns-in-Err c = sym (with_none c.args.self.now.list.items c.args.phandle c.in-Err.field-0 c.in-Err.ensures.absent)
