-- One controller of those that are still to be placed.
use Rattle.std.proofs.Common.{◌≡◌, ℕ, suc, ◌+◌, ◌-◌, ◌<◌, Err, ap, ◌∙◌, arith}
use Rattle.fdt.specs.Tokens.{after}
use Rattle.board_faults.specs.declared.BoardFault.{BoardFault}
use Rattle.plan.specs.Placings.{Placed, place_more, place_one}

-- placing, with so many placed of `all`
pub place_once : (all done : ℕ) (p : Placed) → done < all → place_more (all - done) p ≡ after (place_one p) (place_more (all - (done + 1)))
place_once all done p h = let k : all - done ≡ suc (all - (done + 1)) = omega arith in rw k

-- where one cannot be placed, none is placed further
pub place_stop : (all done : ℕ) (p : Placed) (f : BoardFault) → done < all → place_one p ≡ Err f → place_more (all - done) p ≡ Err f
place_stop all done p f h e = place_once all done p h ∙ ap (λ r. after r (place_more (all - (done + 1)))) e
