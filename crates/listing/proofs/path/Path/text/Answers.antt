use Rattle.std.proofs.Common.{◌≡◌, ◌≢◌, ◌∷◌, length, arith}
use Rattle.std.proofs.lemmas.Grind.{common_steps}
use Rattle.std.specs.List.{flat_map}
use Rattle.listing.proofs.Roots.{empty_text, full_text}
use Rattle.listing.proofs.path.Path.text.Goals.{then-is_empty+in_ok-push-2, else-is_empty}
use Rattle.listing.proofs.path.Path.text.Goals as goal

pub returns : goal.returns
returns c =
    let is : c.loop-name.text.items ≡ flat_map (λ n. 47 ∷ n.now) c.args.self.now.names.items = grind (arith, common_steps) in
    elim c.if-is_empty.branch [
      | then-is_empty+in_ok-push-2 w ↦
          let e : length c.loop-name.text.items ≡ 0 = grind (arith, common_steps) in
          rw (w.text-is, w.in_ok-push-2.ensures.items) (empty_text (λ n. n.now) _ _ is e)
      | else-is_empty w ↦
          let e : length c.loop-name.text.items ≢ 0 = grind (arith, common_steps) in
          rw w.text-is (full_text (λ n. n.now) _ _ is e)
    ]
