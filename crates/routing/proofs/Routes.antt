-- The walk answers a route exactly if the specifier leads there, and a fault exactly if it stops with it.
use Rattle.std.proofs.Common.{◌≡◌, ℕ, zero, suc, ◌+◌, ◌≤◌, Bool, true, false, ◌⊎◌, List, [], ◌∷◌, ◌++◌, length, Some, None, Ok, Err, codes, Option, Result, sym, refl, ap, ◌∙◌, subst, inl, inr, arith}
use Rattle.std.proofs.lemmas.List.{append-nil, append_assoc}
use Rattle.faults.specs.declared.place.At.{At}
use Rattle.faults.specs.declared.fault.RouteFault.{RouteFault}
use Rattle.faults.specs.declared.fault.RouteFault.TheVariants.{NoEnd, TooManyRows}
use Rattle.fdt.specs.Tokens.{after}
use Rattle.nexus.specs.Nexuses.{Ready, nexus_at}
use Rattle.nexus.specs.Rows.{Took, taken_row}
use Rattle.properties.specs.Properties.{Owned}
use Rattle.specifiers.specs.Specifiers.{Specified}
use Rattle.tree.specs.Nodes.{Entry, Listed}
use Rattle.tree.specs.Phandles.{places}
use Rattle.values.specs.Values.{has, property_of}
use Rattle.walk.specs.declared.hops.Hop.{Hop}
use Rattle.walk.specs.Walks.{Found, Next, hop, ended, at_node, onward, arrived, route_of}
use Rattle.routing.specs.Leads.{Takes, IsNexus, Leads, ends, goes, Stops, unread, unread_map, neither, unfit, stuck, ninth, further, LeadsTo, Answers}
use Rattle.routing.proofs.Taking.{no_result, found_row, not_found, SomeRow, NoneTaken, either}

module _ (es : List Listed) (s : Specified) where
  abbrev Given : Type 0
  Given = Option (List ℕ)

  -- what follows a row that a nexus takes
  abbrev on : (At → Next) → Ready → Entry → List Hop → Result Took RouteFault → Result Found RouteFault
  on next n e hops r = after r (λ t. next n.holder t.parent (Some t.unit) t.specifier (hops ++ hop e t.row ∷ []))

  at_nexus : (e : Entry) (given : Given) (cells : List ℕ) (n : Ready) → IsNexus s.device e given cells n → (next : At → Next) (hops : List Hop)
      → at_node next es s e given cells hops ≡ on next n e hops (taken_row es n)
  at_nexus e given cells n w next hops = rw (w.plain, w.mapped, w.ready)

  row_found : (n : Ready) (row : ℕ) (to : Entry) (unit out : List ℕ) → Takes es n n.map row to unit out
      → taken_row es n ≡ Ok (record { row = row; parent = to; unit = unit; specifier = out })
  row_found n row to unit out t = let a : row + 0 ≡ row = omega arith in rw a at (found_row es n n.map row to unit out t 0)

  -- a row that is taken is one spent
  spent : (e : Entry) (given : Given) (cells : List ℕ) (n : Ready) (row : ℕ) (to : Entry) (unit out : List ℕ)
      → IsNexus s.device e given cells n → Takes es n n.map row to unit out → (k : ℕ) (before : List Hop)
      → arrived (suc k) es s e given cells before ≡ arrived k es s to (Some unit) out (before ++ hop e row ∷ [])
  spent e given cells n row to unit out w t k before =
      at_nexus e given cells n w (onward (suc k) es s) before ∙ ap (on (onward (suc k) es s) n e before) (row_found n row to unit out t)

  -- Where cells lead, the walk ends.
  arrives : (e : Entry) (given : Given) (cells : List ℕ) (hops : List Hop) (end : Entry) (out : List ℕ) → Leads es s.device e given cells hops end out
      → (k : ℕ) → length hops ≤ k → (before : List Hop)
      → arrived k es s e given cells before ≡ Ok (ended s end out (before ++ hops))
  arrives e given cells hops end out (ends e2 g2 c2 p) k few before = rw (p, append-nil before)
  arrives e given cells hops0 end0 out0 (goes e2 g2 c2 n row to unit specifier hops end out w t l) zero few before = absurd (omega arith)
  arrives e given cells hops0 end0 out0 (goes e2 g2 c2 n row to unit specifier hops end out w t l) (suc k) few before =
      spent e given cells n row to unit specifier w t k before
      ∙ arrives to (Some unit) specifier hops end out l k (omega arith) (before ++ hop e row ∷ [])
      ∙ ap (λ h. Ok (ended s end out h)) (append_assoc before (hop e row ∷ []) hops)

  -- Where the walk stops, it answers the fault.
  stopped : (k : ℕ) (e : Entry) (given : Given) (cells : List ℕ) (f : RouteFault) → Stops es s.device k e given cells f → (before : List Hop)
      → arrived k es s e given cells before ≡ Err f
  stopped k e given cells f (unread k2 e2 g2 c2 f2 p) before = rw p
  stopped k e given cells f (unread_map k2 e2 g2 c2 f2 p q) before = rw (p, q)
  stopped k e given cells f (neither k2 e2 g2 c2 p q) before = rw (p, q)
  stopped k e given cells f (unfit k2 e2 g2 c2 map f2 p q r) before = rw (p, q, r)
  stopped k e given cells f (stuck k2 e2 g2 c2 n f2 w t) before =
      at_nexus e given cells n w (onward k es s) before ∙ ap (on (onward k es s) n e before) (not_found es n n.map f t 0)
  stopped k0 e given cells f (ninth e2 g2 c2 n row to unit specifier w t) before =
      at_nexus e given cells n w (onward zero es s) before ∙ ap (on (onward zero es s) n e before) (row_found n row to unit specifier t)
  stopped k0 e given cells f (further k e2 g2 c2 n row to unit specifier f2 w t r) before =
      spent e given cells n row to unit specifier w t k before ∙ stopped k to (Some unit) specifier f r (before ++ hop e row ∷ [])

  -- Cells lead somewhere by at most k rows, or the walk stops.
  record Ends (k : ℕ) (e : Entry) (given : Given) (cells : List ℕ) : Type 0 where
    hops : List Hop
    end : Entry
    out : List ℕ
    few : length hops ≤ k
    leads : Leads es s.device e given cells hops end out

  record Halts (k : ℕ) (e : Entry) (given : Given) (cells : List ℕ) : Type 0 where
    why : RouteFault
    stops : Stops es s.device k e given cells why

  abbrev Either : ℕ → Entry → Given → List ℕ → Type 0
  Either k e given cells = Ends k e given cells ⊎ Halts k e given cells

  module _ (e : Entry) (given : Given) (cells : List ℕ) where
    after_row : (k : ℕ) (n : Ready) (row : ℕ) (to : Entry) (unit out : List ℕ) → IsNexus s.device e given cells n
        → Takes es n n.map row to unit out → Either k to (Some unit) out → Either (suc k) e given cells
    after_row k n row to unit out w t (inl x) =
        let few = x.few in
        inl (record {
          hops = hop e row ∷ x.hops;
          end = x.end;
          out = x.out;
          few = omega arith;
          leads = goes e given cells n row to unit out x.hops x.end x.out w t x.leads;
        })
    after_row k n row to unit out w t (inr x) =
        inr (record { why = x.why; stops = further k e given cells n row to unit out x.why w t x.stops })

    -- by the row that a nexus takes
    module _ (n : Ready) (w : IsNexus s.device e given cells n) where
      abbrev Rows : Type 0
      Rows = SomeRow es n n.map ⊎ NoneTaken es n n.map

      no_rows : Rows → Either zero e given cells
      no_rows (inl t) = inr (record { why = TooManyRows n.holder; stops = ninth e given cells n t.row t.to t.unit t.out w t.takes })
      no_rows (inr t) = inr (record { why = t.why; stops = stuck zero e given cells n t.why w t.fails })

      more_rows : (k : ℕ) → ((p : Entry) (g : Given) (cs : List ℕ) → Either k p g cs) → Rows → Either (suc k) e given cells
      more_rows k ih (inl t) = after_row k n t.row t.to t.unit t.out w t.takes (ih t.to (Some t.unit) t.out)
      more_rows k ih (inr t) = inr (record { why = t.why; stops = stuck (suc k) e given cells n t.why w t.fails })

      rows : Rows
      rows = either es n (length n.map) n.map (omega arith)

    module _ (k : ℕ) (step : (n : Ready) → IsNexus s.device e given cells n → Either k e given cells) where
      by_ready : (p : Owned) → has (codes "interrupt-controller") e ≡ Ok false → property_of (codes "interrupt-map") e ≡ Ok (Some p)
          → (q : Result Ready RouteFault) → nexus_at s.device e p given cells ≡ q → Either k e given cells
      by_ready p c m (Err f) r = inr (record { why = f; stops = unfit k e given cells p f c m r })
      by_ready p c m (Ok n) r = step n (record { plain = c; map = p; mapped = m; ready = r })

      by_map : has (codes "interrupt-controller") e ≡ Ok false → (q : Result (Option Owned) RouteFault) → property_of (codes "interrupt-map") e ≡ q → Either k e given cells
      by_map c (Err f) m = inr (record { why = f; stops = unread_map k e given cells f c m })
      by_map c (Ok None) m = inr (record { why = NoEnd (places e.place 0); stops = neither k e given cells c m })
      by_map c (Ok (Some p)) m = by_ready p c m (nexus_at s.device e p given cells) refl

      by_kind : (q : Result Bool RouteFault) → has (codes "interrupt-controller") e ≡ q → Either k e given cells
      by_kind (Err f) c = inr (record { why = f; stops = unread k e given cells f c })
      by_kind (Ok true) c = inl (record { hops = []; end = e; out = cells; few = omega arith; leads = ends e given cells c })
      by_kind (Ok false) c = by_map c (property_of (codes "interrupt-map") e) refl

  ends_or_stops : (k : ℕ) (e : Entry) (given : Given) (cells : List ℕ) → Either k e given cells
  ends_or_stops zero e given cells =
      by_kind e given cells zero (λ n w. no_rows e given cells n w (rows e given cells n w)) (has (codes "interrupt-controller") e) refl
  ends_or_stops (suc k) e given cells =
      by_kind e given cells (suc k) (λ n w. more_rows e given cells n w k (ends_or_stops k) (rows e given cells n w)) (has (codes "interrupt-controller") e) refl

  -- a route is given by its parts
  made : (f : Found) → f.device ≡ s.device.place → f.index ≡ s.index → ended s f.controller f.cells f.hops ≡ f
  made f d i = ap (λ z. record { device = z; index = s.index; hops = f.hops; controller = f.controller; cells = f.cells }) (sym d)
      ∙ ap (λ z. record { device = f.device; index = z; hops = f.hops; controller = f.controller; cells = f.cells }) (sym i)

  module _ (r : Result Found RouteFault) (p : r ≡ route_of es s) where
    led : (f : Found) → (length f.hops ≤ 8) × LeadsTo es s f → r ≡ Ok f
    led f x =
        p ∙ arrives s.parent None s.cells f.hops f.controller f.cells x.1.leads 8 x.0 []
        ∙ ap Ok (made f x.1.device x.1.index)

    halted : (f : RouteFault) → Stops es s.device 8 s.parent None s.cells f → r ≡ Err f
    halted f x = p ∙ stopped 8 s.parent None s.cells f x []

    abbrev Led : Found → Type 0
    Led f = (length f.hops ≤ 8) × LeadsTo es s f

    its_route : Ends 8 s.parent None s.cells → Found
    its_route x = ended s x.end x.out x.hops

    its_led : (x : Ends 8 s.parent None s.cells) → Led (its_route x)
    unfolding its_route
    its_led x = (x.few, record { device = refl; index = refl; leads = x.leads })

    only_led : (f : Found) → r ≡ Ok f → Either 8 s.parent None s.cells → Led f
    only_led f e (inl x) =
        let y = led (its_route x) (its_led x) in
        let same : its_route x ≡ f = cc in
        subst (λ (g : Found). Led g) same (its_led x)
    only_led f e (inr x) = no_result (sym (halted x.why x.stops) ∙ e)

    only_halted : (f : RouteFault) → r ≡ Err f → Either 8 s.parent None s.cells → Stops es s.device 8 s.parent None s.cells f
    only_halted f q (inl x) = no_result (sym q ∙ led (its_route x) (its_led x))
    only_halted f q (inr x) =
        let y = halted x.why x.stops in
        let same : x.why ≡ f = cc in
        subst (λ (g : RouteFault). Stops es s.device 8 s.parent None s.cells g) same x.stops

    one_route : (f g : Found) → LeadsTo es s f → LeadsTo es s g → f ≡ g
    one_route f g x y =
        let k : ℕ = length f.hops + length g.hops in
        let a = arrives s.parent None s.cells f.hops f.controller f.cells x.leads k (omega arith) [] in
        let b = arrives s.parent None s.cells g.hops g.controller g.cells y.leads k (omega arith) [] in
        let c = made f x.device x.index in
        let d = made g y.device y.index in
        cc

    pub answers : Answers es s r
    answers = record {
      route = λ f. record { only = λ e. only_led f e (ends_or_stops 8 s.parent None s.cells); every = led f };
      fault = λ f. record { only = λ q. only_halted f q (ends_or_stops 8 s.parent None s.cells); every = halted f };
      one = one_route;
    }
