-- From where the properties that are asked for at an arrival are sought.
use Rattle.std.specs.Prelude.{◌≡◌, ℕ, List, None, Some, codes, find, Option, Result, ◌==◌}
use Rattle.faults.specs.declared.fault.TokenFault.{TokenFault}
use Rattle.properties.specs.Properties.{Owned, sought}
use Rattle.tree.specs.declared.tree.Tree.{Tree}
use Rattle.tree.specs.Reads.{tokens_in}
use Rattle.indexed.specs.declared.starts.Starts.{Starts}

-- what a search finds
abbrev pub Search : Type 0
Search = Result (Option Owned) TokenFault

-- the six properties, each as a search finds it
pub record Needs : Type 0 where
  pub controller : Search
  pub map : Search
  pub mask : Search
  pub address : Search
  pub interrupt : Search
  pub reg : Search

abbrev pub search_at : Tree → List ℕ → ℕ → Search
search_at t name i = sought name (tokens_in t i)

-- each sought from a place of its own on
abbrev pub needs_by : Tree → Starts → Needs
needs_by t s = record {
  controller = search_at t (codes "interrupt-controller") s.controller;
  map = search_at t (codes "interrupt-map") s.map;
  mask = search_at t (codes "interrupt-map-mask") s.mask;
  address = search_at t (codes "#address-cells") s.address;
  interrupt = search_at t (codes "#interrupt-cells") s.interrupt;
  reg = search_at t (codes "reg") s.reg;
}

-- all sought from one place on
abbrev pub needs_at : Tree → ℕ → Needs
needs_at t i = record {
  controller = search_at t (codes "interrupt-controller") i;
  map = search_at t (codes "interrupt-map") i;
  mask = search_at t (codes "interrupt-map-mask") i;
  address = search_at t (codes "#address-cells") i;
  interrupt = search_at t (codes "#interrupt-cells") i;
  reg = search_at t (codes "reg") i;
}

-- the first row of a body
abbrev pub far_with : ℕ → List Starts → Option Starts
far_with i ss = find (λ (s : Starts). s.body == i) ss

-- What the searches of a row find is what they find from the body on.
abbrev pub Told : Tree → List Starts → Type 0
Told t ss = (i : ℕ) (s : Starts) → far_with i ss ≡ Some s → needs_by t s ≡ needs_at t i

-- where a node is read from: this place, or its body's
abbrev pub begun : ℕ → Option ℕ → ℕ
begun body None = body
begun body (Some i) = i
