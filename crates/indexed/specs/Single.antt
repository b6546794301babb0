-- What an index keeps of its rows is stored once: what these facts equate is data, so each of them has one proof at most.
use Rattle.std.specs.Prelude.{◌≡◌, ℕ, Bool, List, Option, Result, refl}
use Rattle.std.proofs.Common.{◌⊎◌, inl, inr}
use Rattle.std.specs.Coded.{Coded, Coded-set, Π_prop, code_by, coded_ℕ, coded_list, coded_option, coded_result, coded×, coded⊎}
use base.Stored.{coded_unit}
use Rattle.cells.specs.Cells.{Piece}
use Rattle.faults.specs.contracts.fault.TokenFault as token_fault
use Rattle.faults.specs.declared.fault.TokenFault.{TokenFault}
use Rattle.fdt.specs.declared.cursor.Cursor.{Cursor}
use Rattle.fdt.specs.Items.{Item, item, bad}
use Rattle.fdt.specs.Tokens.{Word, opens, property, closes, nothing, ends}
use Rattle.properties.specs.Properties.{Owned}
use Rattle.tree.specs.declared.tree.Tree.{Tree}
use Rattle.tree.specs.Nodes.{Entry, Listed, listed, broken}
use Rattle.values.specs.contracts.counts.Counts as counts
use Rattle.values.specs.declared.counts.Counts.{Counts}
use Rattle.indexed.specs.declared.row.Row.{Row}
use Rattle.indexed.specs.declared.starts.Starts.{Starts}
use Rattle.indexed.specs.Rows.{Keeps, Tells}
use Rattle.indexed.specs.declared.spots.Spot.{Spot}
use Rattle.indexed.specs.Spots.{Spotted}
use Rattle.indexed.specs.Starts.{Needs, Search, Told}

abbrev piece_code : Coded Piece
piece_code = code_by (ℕ × List ℕ) (coded× coded_ℕ (coded_list coded_ℕ)) (λ p. (p.place, p.bytes)) (λ q. record { place = q.0; bytes = q.1 }) (λ _. refl)

-- a token as a sum of its kinds
abbrev Kinds : Type 0
Kinds = Piece ⊎ ((Piece × Piece) ⊎ (Unit {0} ⊎ (Unit {0} ⊎ Unit {0})))

abbrev kind_of : Word → Kinds
kind_of (opens n) = inl n
kind_of (property n v) = inr (inl (n, v))
kind_of closes = inr (inr (inl tt))
kind_of nothing = inr (inr (inr (inl tt)))
kind_of ends = inr (inr (inr (inr tt)))

abbrev word_of : Kinds → Word
word_of (inl n) = opens n
word_of (inr (inl p)) = property p.0 p.1
word_of (inr (inr (inl u))) = closes
word_of (inr (inr (inr (inl u)))) = nothing
word_of (inr (inr (inr (inr u)))) = ends

word_back : (w : Word) → word_of (kind_of w) ≡ w
word_back (opens n) = refl
word_back (property n v) = refl
word_back closes = refl
word_back nothing = refl
word_back ends = refl

abbrev word_code : Coded Word
word_code = code_by Kinds (coded⊎ piece_code (coded⊎ (coded× piece_code piece_code) (coded⊎ coded_unit (coded⊎ coded_unit coded_unit)))) kind_of word_of word_back

abbrev parts_of : Item → (ℕ × (Word × ℕ)) ⊎ TokenFault
parts_of (item i w next) = inl (i, (w, next))
parts_of (bad f) = inr f

abbrev item_of : (ℕ × (Word × ℕ)) ⊎ TokenFault → Item
item_of (inl p) = item p.0 p.1.0 p.1.1
item_of (inr f) = bad f

item_back : (i : Item) → item_of (parts_of i) ≡ i
item_back (item i w next) = refl
item_back (bad f) = refl

abbrev item_code : Coded Item
item_code = code_by ((ℕ × (Word × ℕ)) ⊎ TokenFault) (coded⊎ (coded× coded_ℕ (coded× word_code coded_ℕ)) token_fault.the_row.coded) parts_of item_of item_back

abbrev entry_code : Coded Entry
entry_code =
    code_by (ℕ × (Piece × (ℕ × (ℕ × List Item)))) (coded× coded_ℕ (coded× piece_code (coded× coded_ℕ (coded× coded_ℕ (coded_list item_code)))))
    (λ e. (e.place, (e.name, (e.body, (e.depth, e.rest)))))
    (λ p. record { place = p.0; name = p.1.0; body = p.1.1.0; depth = p.1.1.1.0; rest = p.1.1.1.1 }) (λ _. refl)

found-set : IsSet (Result (Option Entry) TokenFault)
found-set = Coded-set (coded_result (coded_option entry_code) token_fault.the_row.coded)

counts-set : IsSet (Option Counts)
counts-set = Coded-set (coded_option counts.the_row.coded)

pub Tells-prop : (t : Tree) (es : List Listed) (rs : List Row) (c : Cursor) → IsProp (Tells t es rs c)
Tells-prop t es rs c = Π_prop (λ x. found-set _ _)

pub Keeps-prop : (t : Tree) (rs : List Row) → IsProp (Keeps t rs)
Keeps-prop t rs = Π_prop (λ x. Π_prop (λ r. Π_prop (λ q. Π_prop (λ f. Π_prop (λ h. counts-set _ _)))))

abbrev owned_code : Coded Owned
owned_code =
    code_by (ℕ × (Piece × (Piece × ℕ))) (coded× coded_ℕ (coded× piece_code (coded× piece_code coded_ℕ))) (λ p. (p.place, (p.name, (p.value, p.next))))
    (λ q. record { place = q.0; name = q.1.0; value = q.1.1.0; next = q.1.1.1 }) (λ _. refl)

abbrev search_code : Coded Search
search_code = coded_result (coded_option owned_code) token_fault.the_row.coded

abbrev needs_code : Coded Needs
needs_code =
    code_by (Search × (Search × (Search × (Search × (Search × Search)))))
    (coded× search_code (coded× search_code (coded× search_code (coded× search_code (coded× search_code search_code)))))
    (λ n. (n.controller, (n.map, (n.mask, (n.address, (n.interrupt, n.reg))))))
    (λ q. record { controller = q.0; map = q.1.0; mask = q.1.1.0; address = q.1.1.1.0; interrupt = q.1.1.1.1.0; reg = q.1.1.1.1.1 }) (λ _. refl)

needs-set : IsSet Needs
needs-set = Coded-set needs_code

pub Told-prop : (t : Tree) (ss : List Starts) → IsProp (Told t ss)
Told-prop t ss = Π_prop (λ i. Π_prop (λ s. Π_prop (λ q. needs-set _ _)))

abbrev either_of : Listed → Entry ⊎ TokenFault
either_of (listed e) = inl e
either_of (broken f) = inr f

abbrev listed_of : Entry ⊎ TokenFault → Listed
listed_of (inl e) = listed e
listed_of (inr f) = broken f

listed_back : (l : Listed) → listed_of (either_of l) ≡ l
listed_back (listed e) = refl
listed_back (broken f) = refl

nodes-set : IsSet (List Listed)
nodes-set = Coded-set (coded_list (code_by (Entry ⊎ TokenFault) (coded⊎ entry_code token_fault.the_row.coded) either_of listed_of listed_back))

pub Spotted-prop : (t : Tree) (ss : List Spot) (whole : Bool) → IsProp (Spotted t ss whole)
Spotted-prop t ss whole = Π_prop (λ q. nodes-set _ _)
