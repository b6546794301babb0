-- A route in the words of the subject: a specifier leads by rows to a controller, or its walk stops with a fault.
use Rattle.std.specs.Prelude.{◌≡◌, ℕ, zero, suc, ◌≤◌, true, false, List, [], ◌∷◌, ◌++◌, length, Some, None, Ok, Err, codes, Option, Result, ◌≢◌}
use Rattle.search.specs.Exactly.{Exactly}
use Rattle.faults.specs.declared.fault.RouteFault.{RouteFault}
use Rattle.faults.specs.declared.fault.RouteFault.TheVariants.{NoEnd, NoRow, TooManyRows}
use Rattle.nexus.specs.Nexuses.{Ready, masked, nexus_at}
use Rattle.nexus.specs.Rows.{row_at}
use Rattle.properties.specs.Properties.{Owned}
use Rattle.specifiers.specs.Specifiers.{Specified}
use Rattle.tree.specs.Nodes.{Entry, Listed}
use Rattle.tree.specs.Phandles.{places}
use Rattle.values.specs.declared.counts.Counts.{Counts}
use Rattle.values.specs.Counts.{counts_of}
use Rattle.values.specs.Values.{has, node_of, property_of}
use Rattle.walk.specs.declared.hops.Hop.{Hop}
use Rattle.walk.specs.Walks.{Found, hop}

-- A row: the child cells, the phandle of the row's parent, and as many cells as the parent's counts say.
pub record IsRow (es : List Listed) (n : Ready) (child : List ℕ) (phandle : ℕ) (parent : Entry) (unit specifier : List ℕ) : Type 0 where
  pub counts : Counts
  pub wide : length child ≡ n.width
  pub there : node_of es phandle n.holder ≡ Ok parent
  pub counted : counts_of parent ≡ Ok counts
  pub addressed : length unit ≡ counts.address
  pub specified : length specifier ≡ counts.interrupt

-- the cells of a row, and those of the rows after it
abbrev pub row_cells : List ℕ → ℕ → List ℕ → List ℕ → List ℕ → List ℕ
row_cells child phandle unit specifier rest = child ++ (phandle ∷ (unit ++ (specifier ++ rest)))

-- Of the rows that these cells are, the first whose child cells are the cells to match under the mask: its number, its parent, and
-- what it gives. Every row before it is readable and does not match.
pub data Takes (es : List Listed) (n : Ready) : List ℕ → ℕ → Entry → List ℕ → List ℕ → Type 0 where
  this : (child : List ℕ) (phandle : ℕ) (parent : Entry) (unit specifier rest : List ℕ)
      → IsRow es n child phandle parent unit specifier → child ≡ masked n
      → Takes es n (row_cells child phandle unit specifier rest) 0 parent unit specifier
  later : (child : List ℕ) (phandle : ℕ) (parent : Entry) (unit specifier rest : List ℕ) (row : ℕ) (to : Entry) (address out : List ℕ)
      → IsRow es n child phandle parent unit specifier → (child ≢ masked n)
      → Takes es n rest row to address out
      → Takes es n (row_cells child phandle unit specifier rest) (suc row) to address out

-- No row is taken: the map ends, or a row cannot be read before one matches.
pub data Fails (es : List Listed) (n : Ready) : List ℕ → RouteFault → Type 0 where
  over : Fails es n [] (NoRow n.holder)
  unreadable : (x : ℕ) (xs : List ℕ) (f : RouteFault) → row_at es n (x ∷ xs) ≡ Err f → Fails es n (x ∷ xs) f
  passed : (child : List ℕ) (phandle : ℕ) (parent : Entry) (unit specifier rest : List ℕ) (f : RouteFault)
      → IsRow es n child phandle parent unit specifier → (child ≢ masked n)
      → Fails es n rest f
      → Fails es n (row_cells child phandle unit specifier rest) f

-- The node e is no controller and has a map, and n is what is read there for a specifier of the device with these cells.
pub record IsNexus (device e : Entry) (given : Option (List ℕ)) (cells : List ℕ) (n : Ready) : Type 0 where
  pub plain : has (codes "interrupt-controller") e ≡ Ok false
  pub map : Owned
  pub mapped : property_of (codes "interrupt-map") e ≡ Ok (Some map)
  pub ready : nexus_at device e map given cells ≡ Ok n

-- A controller ends the route; a nexus takes a row, and what the row gives goes on at the row's parent.
pub data Leads (es : List Listed) (device : Entry) : Entry → Option (List ℕ) → List ℕ → List Hop → Entry → List ℕ → Type 0 where
  ends : (e : Entry) (given : Option (List ℕ)) (cells : List ℕ)
      → has (codes "interrupt-controller") e ≡ Ok true
      → Leads es device e given cells [] e cells
  goes : (e : Entry) (given : Option (List ℕ)) (cells : List ℕ) (n : Ready) (row : ℕ) (to : Entry) (unit specifier : List ℕ)
      (hops : List Hop) (end : Entry) (out : List ℕ)
      → IsNexus device e given cells n
      → Takes es n n.map row to unit specifier
      → Leads es device to (Some unit) specifier hops end out
      → Leads es device e given cells (hop e row ∷ hops) end out

-- The walk stops with a fault, where so many rows may still be taken.
pub data Stops (es : List Listed) (device : Entry) : ℕ → Entry → Option (List ℕ) → List ℕ → RouteFault → Type 0 where
  unread : (k : ℕ) (e : Entry) (given : Option (List ℕ)) (cells : List ℕ) (f : RouteFault)
      → has (codes "interrupt-controller") e ≡ Err f
      → Stops es device k e given cells f
  unread_map : (k : ℕ) (e : Entry) (given : Option (List ℕ)) (cells : List ℕ) (f : RouteFault)
      → has (codes "interrupt-controller") e ≡ Ok false → property_of (codes "interrupt-map") e ≡ Err f
      → Stops es device k e given cells f
  neither : (k : ℕ) (e : Entry) (given : Option (List ℕ)) (cells : List ℕ)
      → has (codes "interrupt-controller") e ≡ Ok false → property_of (codes "interrupt-map") e ≡ Ok None
      → Stops es device k e given cells (NoEnd (places e.place 0))
  unfit : (k : ℕ) (e : Entry) (given : Option (List ℕ)) (cells : List ℕ) (map : Owned) (f : RouteFault)
      → has (codes "interrupt-controller") e ≡ Ok false → property_of (codes "interrupt-map") e ≡ Ok (Some map)
      → nexus_at device e map given cells ≡ Err f
      → Stops es device k e given cells f
  stuck : (k : ℕ) (e : Entry) (given : Option (List ℕ)) (cells : List ℕ) (n : Ready) (f : RouteFault)
      → IsNexus device e given cells n → Fails es n n.map f
      → Stops es device k e given cells f
  ninth : (e : Entry) (given : Option (List ℕ)) (cells : List ℕ) (n : Ready) (row : ℕ) (to : Entry) (unit specifier : List ℕ)
      → IsNexus device e given cells n → Takes es n n.map row to unit specifier
      → Stops es device zero e given cells (TooManyRows n.holder)
  further : (k : ℕ) (e : Entry) (given : Option (List ℕ)) (cells : List ℕ) (n : Ready) (row : ℕ) (to : Entry) (unit specifier : List ℕ)
      (f : RouteFault)
      → IsNexus device e given cells n → Takes es n n.map row to unit specifier
      → Stops es device k to (Some unit) specifier f
      → Stops es device (suc k) e given cells f

-- A specifier leads to a route: its cells do, from where they arrive first.
pub record LeadsTo (es : List Listed) (s : Specified) (f : Found) : Type 0 where
  pub device : f.device ≡ s.device.place
  pub index : f.index ≡ s.index
  pub leads : Leads es s.device s.parent None s.cells f.hops f.controller f.cells

-- The answer is a route exactly if the specifier leads to it by at most eight rows, and a fault exactly if the walk stops with it; no
-- specifier leads to two routes, by however many rows.
pub record Answers (es : List Listed) (s : Specified) (r : Result Found RouteFault) : Type 0 where
  pub route : (f : Found) → Exactly (r ≡ Ok f) ((length f.hops ≤ 8) × LeadsTo es s f)
  pub fault : (f : RouteFault) → Exactly (r ≡ Err f) (Stops es s.device 8 s.parent None s.cells f)
  pub one : (f g : Found) → LeadsTo es s f → LeadsTo es s g → f ≡ g
