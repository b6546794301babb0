-- The specifiers of a node.
use Rattle.std.specs.Prelude.{ℕ, ◌+◌, ◌-◌, ◌^◌, ◌<◌, min, cond, List, length, take, drop, Some, None, Ok, Err, codes, Option, Result, ◌==◌, nat_le, slice_index}
use Rattle.cell_list.specs.CellLists.{cells_in}
use Rattle.faults.specs.declared.fault.RouteFault.{RouteFault}
use Rattle.faults.specs.declared.fault.RouteFault.TheVariants.{Short}
use Rattle.fdt.specs.Tokens.{after}
use Rattle.interrupt_parent.specs.Parents.{interrupt_parent}
use Rattle.tree.specs.declared.node.Node.{Node}
use Rattle.tree.specs.declared.tree.Tree.{Tree}
use Rattle.tree.specs.Nodes.{Entry, Listed, entry_of}
use Rattle.tree.specs.Phandles.{places}
use Rattle.tree.specs.Reads.{entry_in}
use Rattle.values.specs.Counts.{interrupt_cells}
use Rattle.values.specs.Values.{Whole, cells_within, node_of}
use Rattle.specifiers.specs.declared.Cut.{Cut}
use Rattle.specifiers.specs.declared.Head.{Head}
use Rattle.specifiers.specs.declared.Specifier.{Specifier}
use Rattle.specifiers.specs.declared.Specifiers.{Specifiers}

-- what is not cut yet: of `interrupts` with the interrupt parent, of `interrupts-extended` with none
pub record Uncut : Type 0 where
  pub device : Entry
  pub property : ℕ
  pub parent : Option Entry
  pub left : List ℕ
  pub index : ℕ

-- a specifier: its device and property, its index, the node where it arrives first, and its cells
pub record Specified : Type 0 where
  pub device : Entry
  pub property : ℕ
  pub index : ℕ
  pub parent : Entry
  pub cells : List ℕ

-- a specifier that was cut off, and what is left
pub record CutOff : Type 0 where
  pub specifier : Specified
  pub rest : Uncut

-- where a specifier arrives first, and the cells that begin with its own
pub record Begun : Type 0 where
  pub parent : Entry
  pub cells : List ℕ

abbrev pub node_seen : Tree → Option Node → Option Entry
node_seen t o = entry_of t.blob.bytes.now t.blob.header o

abbrev pub uncut : Tree → Specifiers → Uncut
uncut t s = record {
  device = entry_in t s.device;
  property = s.property.0;
  parent = node_seen t s.parent;
  left = cells_in s.left;
  index = s.index;
}

abbrev pub uncut_in : Tree → Result (Option Specifiers) RouteFault → Result (Option Uncut) RouteFault
uncut_in t (Ok None) = Ok None
uncut_in t (Ok (Some s)) = Ok (Some (uncut t s))
uncut_in t (Err f) = Err f

abbrev pub specified : Tree → Specifier → Specified
specified t s = record {
  device = entry_in t s.device;
  property = s.property.0;
  index = s.index;
  parent = entry_in t s.parent;
  cells = cells_in s.cells;
}

abbrev pub cut_in : Tree → Result (Option Cut) RouteFault → Result (Option CutOff) RouteFault
cut_in t (Ok None) = Ok None
cut_in t (Ok (Some c)) = Ok (Some (record { specifier = specified t c.specifier; rest = uncut t c.rest }))
cut_in t (Err f) = Err f

abbrev pub head_in : Tree → Result Head RouteFault → Result Begun RouteFault
head_in t (Ok h) = Ok (record { parent = entry_in t h.parent; cells = cells_in h.cells })
head_in t (Err f) = Err f

-- all the cells of a property
abbrev pub all_of : Entry → Whole → Option Entry → Uncut
all_of e w parent = record { device = e; property = w.property; parent = parent; left = w.cells; index = 0 }

-- the specifiers in `interrupts`; an empty one has none, and nothing further is read
abbrev pub from_interrupts : List Listed → Entry → Whole → Result (Option Uncut) RouteFault
from_interrupts es e w =
    cond (length w.cells == 0) (Ok None)
    (after (interrupt_parent es e) (λ p. Ok (Some (all_of e w (Some p)))))

abbrev pub by_interrupts : List Listed → Entry → Option Whole → Result (Option Uncut) RouteFault
by_interrupts es e None = Ok None
by_interrupts es e (Some w) = from_interrupts es e w

-- the specifiers in `interrupts-extended`, which replaces `interrupts` even where it is empty
abbrev pub by_extended : List Listed → Entry → Option Whole → Result (Option Uncut) RouteFault
by_extended es e None = after (cells_within (codes "interrupts") e) (by_interrupts es e)
by_extended es e (Some w) = cond (length w.cells == 0) (Ok None) (Ok (Some (all_of e w None)))

-- the specifiers of a node
abbrev pub specifiers_from : List Listed → Entry → Result (Option Uncut) RouteFault
specifiers_from es e = after (cells_within (codes "interrupts-extended") e) (by_extended es e)

abbrev pub head_by : List Listed → Uncut → Option Entry → Result Begun RouteFault
head_by es u (Some p) = Ok (record { parent = p; cells = u.left })
head_by es u None =
    after (node_of es (slice_index u.left 0) (places u.device.place u.property)) (λ p.
    Ok (record { parent = p; cells = drop 1 u.left }))

-- where the next specifier arrives first: at the interrupt parent, or at the node of the phandle before it
abbrev pub head_of : List Listed → Uncut → Result Begun RouteFault
head_of es u = head_by es u u.parent

-- n cells cut off
abbrev pub cut_off : Uncut → Begun → ℕ → CutOff
cut_off u h n = record {
  specifier = record { device = u.device; property = u.property; index = u.index; parent = h.parent; cells = take n h.cells };
  rest = record { device = u.device; property = u.property; parent = u.parent; left = drop n h.cells; index = min (u.index + 1) (2 ^ 64 - 1) };
}

abbrev pub cut_at : Uncut → Begun → ℕ → Result (Option CutOff) RouteFault
cut_at u h n = cond (nat_le n (length h.cells)) (Ok (Some (cut_off u h n))) (Err (Short (places u.device.place u.property)))

-- the next specifier has as many cells as the `#interrupt-cells` of the node where it arrives first
abbrev pub next_specifier : List Listed → Uncut → Result (Option CutOff) RouteFault
next_specifier es u =
    cond (length u.left == 0) (Ok None)
    (after (head_of es u) (λ h. after (interrupt_cells h.parent) (cut_at u h)))

-- fewer than n cells are left after a specifier
abbrev pub CutGoes : ℕ → Result (Option Cut) RouteFault → Type 0
CutGoes n (Ok None) = Unit {0}
CutGoes n (Ok (Some c)) = length (cells_in c.rest.left) < n
CutGoes n (Err f) = Unit {0}
