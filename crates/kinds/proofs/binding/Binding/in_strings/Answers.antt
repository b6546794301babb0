use Rattle.std.proofs.Common.{rules, tests}
use Rattle.std.proofs.lemmas.Iterator.Consumers.{YieldsList-at, YieldsList-from_filter_map}
use Rattle.std.proofs.lemmas.Iterator.Splits.{YieldsList-from_slice_split}
use Rattle.kinds.specs.Bindings.{named}
use Rattle.kinds.proofs.Heads.{first_given}
use Rattle.kinds.proofs.binding.Binding.in_strings.Goals as goal

pub returns : goal.returns
returns c =
    first_given _ _ c.next.ensures.steps (YieldsList-from_filter_map _ named (YieldsList-at c.filter_map.ensures.source (YieldsList-from_slice_split _ _ c.args.strings.now c.split-parts.ensures.rest c.split-parts.ensures.done c.split-parts.ensures.closure (λ x r q k. search (rules, tests)))) c.filter_map.ensures.closure (λ x r q k. search (rules, tests)))
