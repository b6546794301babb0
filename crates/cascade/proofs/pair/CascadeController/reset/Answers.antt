use Rattle.std.proofs.Common.{◌≡◌, None, sym, ap, ◌∙◌}
use Rattle.controller.specs.Meaning.{all_reset}
use Rattle.cascade.specs.Pairs.{pair, Bound}
use Rattle.cascade.specs.Questions.{made_lines, wired_by}
use Rattle.cascade.proofs.Restarting.{no_refusal, rest_link, rest_lines, rest_rests, made_paired, made_again, wired_as, still}
use Rattle.cascade.proofs.pair.CascadeController.reset.Goals as goal

pub returns : goal.returns
returns g c =
    let p = g.P.Controller.meaning c.args.self.now.parent in
    let p₁ = g.P.Controller.meaning c.reset.new.self in
    let p₂ = g.P.Controller.meaning c.set_sense.new.self in
    let p₃ = g.P.Controller.meaning c.set_mask.new.self in
    let p₄ = g.P.Controller.meaning c.settle.new.parent in
    let q = g.C.Controller.meaning c.args.self.now.child in
    let q₁ = g.C.Controller.meaning c.reset-2.new.self in
    let o = c.args.self.now.wired in
    let k = c.in-Some.k in
    let f₁ = c.reset.ensures.sound in
    let h₁ = c.reset-2.ensures.sound in
    let f₂ = c.set_sense.ensures.keeps f₁ in
    let f₃ = c.set_mask.ensures.keeps f₂ in
    let u = no_refusal c.question.result _ (c.question.ensures f₁ h₁) c.if-is_err.ensures.value in
    let d = rest_link p₁ p₂ p₃ p₄ q₁ k c.reset.ensures.rests c.reset-2.ensures.rests c.set_sense.result c.set_mask.result u (c.set_sense.ensures.steps f₁) (c.set_mask.ensures.steps f₂) in
    let s = c.settle.ensures.settled f₃ h₁ d.link in
    let e = rest_lines p₁ p₂ p₃ p₄ q₁ k c.reset.ensures.rests c.reset-2.ensures.rests d s in
    let bound : Bound p₄ q₁ o = rw c.in-Some.is s.tied in
    let rests : (pair p₄ q₁ o).lines ≡ all_reset (pair p₄ q₁ o).lines =
    rw c.in-Some.is (rest_rests p₁ p₂ p₃ p₄ q₁ k c.reset.ensures.rests c.reset-2.ensures.rests d s) in
    let lines : g.P.Controller.sound c.args.self.now.parent → g.C.Controller.sound c.args.self.now.child → (pair p₄ q₁ o).lines ≡ made_lines p.lines q.lines o =
    λ f h. rw c.in-Some.is (made_paired p.lines p₁.lines q.lines q₁.lines k _ (c.reset.ensures.resets f) (c.reset-2.ensures.resets h) u e) in
    record {
      sound = (c.settle.ensures.keeps f₃, h₁, bound);
      rests = rests;
      resets = λ f. lines f.0 f.1 ∙ made_again p q o f.2;
      made = record {
        sound = (c.settle.ensures.keeps f₃, h₁, bound);
        rests = rests;
        held = rw c.in-Some.is (ap (wired_by k) (sym (still p₄ q₁ k s.tied)));
        lines = lines;
        wired = λ f h. rw c.in-Some.is (wired_as p.lines p₁.lines q.lines q₁.lines k None (c.reset.ensures.resets f) (c.reset-2.ensures.resets h) u);
      };
    }
