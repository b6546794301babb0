use Rattle.std.proofs.Common.{◌≡◌, ◌++◌, take}
use Rattle.std.specs.List.{flat_map}
use Rattle.std.specs.String.{string_bytes}
use Rattle.route_text.specs.Texts.{hop_text, via}
use Rattle.walk.specs.Hops.{hops_of}
use Rattle.route_text.proofs.via_text.Given as goal

abbrev pub invariant-loop-hop : goal.invariant-loop-hop
invariant-loop-hop l = string_bytes l.text ≡ via (hops_of l.hops) ++ flat_map hop_text (take l.hop-index l.hop-items)
