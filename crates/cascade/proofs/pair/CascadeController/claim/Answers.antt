use Rattle.std.proofs.Common.{arith}
use Rattle.cascade.proofs.Serving.{is_wired, not_wired, claims_other, claims_none, claims_link, claims_child, claims_room, claims_named}
use Rattle.cascade.proofs.pair.CascadeController.claim.Goals as goal

pub returns-then-ne : goal.returns-then-ne
returns-then-ne g c =
    let q = c.in_ok-i.ensures in
    let s = λ (f : _). claims_other (g.P.Controller.meaning c.args.self.now.parent) (g.P.Controller.meaning c.claim.new.self) (g.C.Controller.meaning c.args.self.now.child) c.args.self.now.wired c.in_ok-i.i (not_wired _ _ c.if-ne.ensures) (g.met.P.Controller.lawful c.args.self.now.parent f.0) f.2 (q.names f.0) in
    record { keeps = λ f. (q.keeps f.0, f.1, (s f).0); names = λ f. (s f).1 }

pub returns-in_err-c : goal.returns-in_err-c
returns-in_err-c g c =
    let no = λ (f : _). claims_none (g.P.Controller.meaning c.args.self.now.parent) (g.P.Controller.meaning c.claim.new.self) (g.C.Controller.meaning c.args.self.now.child) c.args.self.now.wired c.in_ok-i.i (is_wired _ _ c.if-ne.ensures) (g.met.P.Controller.lawful c.args.self.now.parent f.0) (g.met.C.Controller.lawful c.args.self.now.child f.1) f.2 (c.in_ok-i.ensures.names f.0) (c.in_err-c.ensures.names f.1).0 in
    record { keeps = λ f. absurd (no f); names = λ f. absurd (no f) }

pub returns : goal.returns
returns g c =
    let p = g.P.Controller.meaning c.args.self.now.parent in
    let p₁ = g.P.Controller.meaning c.claim.new.self in
    let d = g.C.Controller.meaning c.args.self.now.child in
    let d' = g.C.Controller.meaning c.claim-2.new.self in
    let o = c.args.self.now.wired in
    let is = is_wired o c.in_ok-i.i c.if-ne.ensures in
    let q = c.in_ok-i.ensures in
    let r = c.in_ok-c.ensures in
    let l = λ (f : _). claims_link p p₁ d d' o c.in_ok-i.i c.in_ok-c.c is (g.met.P.Controller.lawful c.args.self.now.parent f.0) (g.met.C.Controller.lawful c.args.self.now.child f.1) f.2 (q.names f.0) (r.names f.1) in
    let s = λ (f : _). claims_child p p₁ (g.P.Controller.meaning c.settle.new.parent) d d' o c.in_ok-i.i c.in_ok-c.c c.width-wide.result is (c.width-wide.ensures (q.keeps f.0)) (q.names f.0) (r.names f.1) (c.settle.ensures.settled (q.keeps f.0) (r.keeps f.1) (l f)) in
    record {
      keeps = λ f. (c.settle.ensures.keeps (q.keeps f.0), r.keeps f.1, (s f).0);
      names = λ f. claims_named c.width-wide.result c.in_ok-c.c c.saturating_add.result c.saturating_add.ensures (omega (arith, claims_room p₁ d d' c.in_ok-i.i c.in_ok-c.c c.width-wide.result (c.width-wide.ensures (q.keeps f.0)) (g.met.C.Controller.lawful c.args.self.now.child f.1) (l f) (r.names f.1))) (s f).1;
    }
