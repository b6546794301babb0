-- All that opening promises, from what it answers.
use Rattle.std.proofs.Common.{◌≡◌, ℕ, List, Result, ◌∙◌}
use Rattle.faults.specs.declared.fault.RouteFault.{RouteFault}
use Rattle.fdt.proofs.Fronts.{blob_same}
use Rattle.fdt.specs.Blobs.{SameFront, Source}
use Rattle.tree.specs.Opening.{DecidedBy, Opens, ReadsAll, open_of}
use Rattle.tree.proofs.Opening.{opens_exactly, opens_readable, open_same}
use Rattle.tree.proofs.Unread.{opens_decided}

pub opens : (b : List ℕ) (r : Result Source RouteFault) → r ≡ open_of b → record {
  is : r ≡ open_of b;
  exactly : Opens b r;
  reads : ReadsAll r;
  decided : DecidedBy b r;
  unread : (c : List ℕ) → SameFront b c → r ≡ open_of c;
}
opens b r e = record {
  is = e;
  exactly = opens_exactly b r e;
  reads = opens_readable b r e;
  decided = opens_decided b r e;
  unread = λ c s. e ∙ open_same b c (blob_same b c s);
}
