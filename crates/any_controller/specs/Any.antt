-- What a controller of any kind means: what the one in it means.
use Rattle.std.specs.Prelude.{List, map, ℕ}
use Rattle.controller.specs.Meaning.{Meaning}
use Rattle.i8259.specs.Offers.{i8259_meaning}
use Rattle.plic.specs.Offers.{plic_meaning}
use Rattle.status_mux.specs.Offers.{mux_meaning}
use Rattle.any_controller.specs.declared.any.AnyController.{AnyController}
use Rattle.any_controller.specs.declared.any.AnyController.TheVariants.{I8259, Plic, StatusMux}

abbrev pub any_meaning : AnyController → Meaning
any_meaning (I8259 x) = i8259_meaning x
any_meaning (Plic x) = plic_meaning x
any_meaning (StatusMux x) = mux_meaning x

-- the kind, of a PLIC with the priorities of its lines
pub data Kind : Type 0 where
  i8259 : Kind
  plic : List ℕ → Kind
  status_mux : Kind

abbrev pub kind_of : AnyController → Kind
kind_of (I8259 x) = i8259
kind_of (Plic x) = plic x.order.levels
kind_of (StatusMux x) = status_mux
