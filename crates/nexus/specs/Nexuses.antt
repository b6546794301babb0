-- What a nexus has to match, and its map.
use Rattle.std.specs.Prelude.{ℕ, ◌+◌, Bool, cond, List, [], ◌∷◌, ◌++◌, length, take, Some, None, Ok, Err, codes, Option, Result, ◌==◌, ◌≡◌, ◌<◌, ◌≤◌, bit_and, nat_le, slice_index}
use Rattle.std.specs.Str.{bytes_eq}
use Rattle.cell_list.specs.declared.CellList.{CellList}
use Rattle.cell_list.specs.CellLists.{cells_in}
use Rattle.faults.specs.declared.place.At.{At}
use Rattle.faults.specs.declared.fault.RouteFault.{RouteFault}
use Rattle.faults.specs.declared.fault.RouteFault.TheVariants.{Row}
use Rattle.fdt.specs.Tokens.{after}
use Rattle.properties.specs.Properties.{Owned}
use Rattle.tree.specs.Nodes.{Entry}
use Rattle.tree.specs.Phandles.{places}
use Rattle.values.specs.Counts.{counts_of}
use Rattle.values.specs.Values.{Whole, cells_within, whole_cells}
use Rattle.nexus.specs.declared.ready.Nexus.{Nexus}

-- a nexus at which cells arrived: the places of it and its map, how many child cells its rows have, the cells to match, the mask and
-- the cells of the map
pub record Ready : Type 0 where
  pub holder : At
  pub width : ℕ
  pub cells : List ℕ
  pub mask : Option (List ℕ)
  pub map : List ℕ

abbrev pub list_option : Option CellList → Option (List ℕ)
list_option None = None
list_option (Some l) = Some (cells_in l)

abbrev pub ready : Nexus → Ready
ready n = record {
  holder = n.holder;
  width = n.width;
  cells = cells_in n.unit ++ cells_in n.specifier;
  mask = list_option n.mask;
  map = cells_in n.map;
}

abbrev pub ready_in : Result Nexus RouteFault → Result Ready RouteFault
ready_in (Ok n) = Ok (ready n)
ready_in (Err f) = Err f

abbrev pub list_seen : Result CellList RouteFault → Result (List ℕ) RouteFault
list_seen (Ok l) = Ok (cells_in l)
list_seen (Err f) = Err f

abbrev pub mask_seen : Result (Option CellList) RouteFault → Result (Option (List ℕ)) RouteFault
mask_seen (Ok o) = Ok (list_option o)
mask_seen (Err f) = Err f

abbrev pub reg_by : Entry → ℕ → Option Whole → Result (List ℕ) RouteFault
reg_by device a None = Err (Row (places device.place 0))
reg_by device a (Some w) = cond (nat_le a (length w.cells)) (Ok (take a w.cells)) (Err (Row (places device.place w.property)))

-- the first a cells of the device's `reg`, which is not read where a is 0
abbrev pub unit_address : Entry → ℕ → Result (List ℕ) RouteFault
unit_address device a = cond (a == 0) (Ok []) (after (cells_within (codes "reg") device) (reg_by device a))

-- the unit address: of the device on the first arrival, else what the row gave
abbrev pub unit_of : Entry → ℕ → Option (List ℕ) → Result (List ℕ) RouteFault
unit_of device a None = unit_address device a
unit_of device a (Some given) = Ok given

abbrev pub mask_by : Entry → ℕ → Option Whole → Result (Option (List ℕ)) RouteFault
mask_by e width None = Ok None
mask_by e width (Some w) = cond (length w.cells == width) (Ok (Some w.cells)) (Err (Row (places e.place w.property)))

-- the mask of a nexus, which has a cell for each child cell of a row
abbrev pub mask_of : Entry → ℕ → Result (Option (List ℕ)) RouteFault
mask_of e width = after (cells_within (codes "interrupt-map-mask") e) (mask_by e width)

-- the nexus e with the map p, at which these cells arrived: its counts, the unit address, the mask, then the map are read
abbrev pub nexus_at : Entry → Entry → Owned → Option (List ℕ) → List ℕ → Result Ready RouteFault
nexus_at device e p given specifier =
    after (counts_of e) (λ c.
    after (unit_of device c.address given) (λ unit.
    after (mask_of e (c.address + c.interrupt)) (λ mask.
    after (whole_cells e.place p) (λ map.
    Ok (record {
      holder = places e.place p.place;
      width = c.address + c.interrupt;
      cells = unit ++ specifier;
      mask = mask;
      map = map.cells;
    })))))

-- the cell at i under the mask; without a mask every bit counts
abbrev pub under : Option (List ℕ) → ℕ → ℕ → ℕ
under None i x = x
under (Some m) i x = bit_and x (slice_index m i)

-- cells under the mask, the first of which stands at i
abbrev pub masked_from : Option (List ℕ) → ℕ → List ℕ → List ℕ
masked_from mask i [] = []
masked_from mask i (x ∷ xs) = under mask i x ∷ masked_from mask (i + 1) xs

-- the cells that a row has to have as its child cells
abbrev pub masked : Ready → List ℕ
masked n = masked_from n.mask 0 n.cells

-- the one of those cells that stands at i
abbrev pub masked_at : Ready → ℕ → ℕ
masked_at n i = under n.mask i (slice_index n.cells i)

-- these are the first child cells that a row has to have
abbrev pub Wanted : Ready → List ℕ → Type 0
Wanted n wanted = (length wanted ≤ n.width) × ((i : ℕ) → i < length wanted → slice_index wanted i ≡ masked_at n i)

-- a row with these child cells matches; they are not masked
abbrev pub matches : Ready → List ℕ → Bool
matches n child = bytes_eq child (masked n)
