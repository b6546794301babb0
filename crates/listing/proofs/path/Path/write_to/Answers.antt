use Rattle.std.proofs.Common.{◌≡◌, ◌≢◌, ◌∷◌, ◌++◌, length, arith}
use Rattle.std.proofs.lemmas.Grind.{common_steps}
use Rattle.std.specs.List.{flat_map}
use Rattle.listing.proofs.Roots.{named_text}
use Rattle.listing.proofs.path.Path.write_to.Goals as goal

pub returns : goal.returns
returns c =
    let is : c.loop-name.out.items ≡ c.args.out.now.items ++ flat_map (λ n. 47 ∷ n.now) c.args.self.now.names.items = grind (arith, common_steps) in
    let some : length c.args.self.now.names.items ≢ 0 = grind (arith, common_steps) in
    named_text (λ n. n.now) c.args.self.now.names.items c.args.out.now.items c.loop-name.out.items some is
