use Rattle.cascade.specs.Pairing.{at_parent, at_child, child_tied}
use Rattle.cascade.proofs.Serving.{loosened, settles_after}
use Rattle.cascade.proofs.pair.CascadeController.change.Goals as goal

pub returns-in-Parent : goal.returns-in-Parent
returns-in-Parent g c =
    let q = c.change in
    let s = λ (f : _). at_parent (g.P.Controller.meaning c.args.self.now.parent) (g.P.Controller.meaning q.new.self) (g.C.Controller.meaning c.args.self.now.child) c.args.self.now.wired c.args.change c.args.line q.result (c.in-Parent.ensures f.0) f.2 (q.ensures.steps f.0) in
    record { keeps = λ f. (q.ensures.keeps f.0, f.1, (s f).0); steps = λ f. (s f).1 }

pub returns-in_ok-change-in-Child : goal.returns-in_ok-change-in-Child
returns-in_ok-change-in-Child g c =
    let q = c.in_ok-change-in-Child.ensures in
    let p = g.P.Controller.meaning c.args.self.now.parent in
    let p₁ = g.P.Controller.meaning c.release.new.parent in
    let p₂ = g.P.Controller.meaning c.settle.new.parent in
    let d = g.C.Controller.meaning c.args.self.now.child in
    let d' = g.C.Controller.meaning c.change-in-Child.new.self in
    let o = c.args.self.now.wired in
    let l = λ (f : _). loosened c.args.change p p₁ d d' c.in-Child.k c.in-Child.c (child_tied p d o c.in-Child.k c.in-Child.c c.args.line (c.in-Child.ensures f.0) f.2) (q.steps f.1) (c.release.ensures.released f.0) in
    let s = λ (f : _). at_child p p₂ d d' o c.in-Child.k c.in-Child.c c.args.change c.args.line (c.in-Child.ensures f.0) (q.steps f.1) (settles_after (l f) (c.settle.ensures.settled (c.release.ensures.keeps f.0) (q.keeps f.1) (l f).link)) in
    record { keeps = λ f. (c.settle.ensures.keeps (c.release.ensures.keeps f.0), q.keeps f.1, (s f).0); steps = λ f. (s f).1 }
