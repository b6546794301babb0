-- What opening answers.
use Rattle.std.specs.Prelude.{◌≡◌, ℕ, ◌+◌, List, [], ◌∷◌, length, take, Ok, Err, Option, Result}
use Rattle.search.specs.Exactly.{Exactly}
use Rattle.fdt.specs.declared.blob.Blob.{Blob}
use Rattle.cells.specs.declared.header.Header.{Header}
use Rattle.faults.specs.declared.fault.HeaderFault.{HeaderFault}
use Rattle.faults.specs.declared.fault.TokenFault.{TokenFault}
use Rattle.faults.specs.declared.fault.TokenFault.TheVariants as fault
use Rattle.fdt.specs.Blobs.{Source, source, blob_of}
use Rattle.cells.specs.Headers.{header_of}
use Rattle.fdt.specs.Items.{all_items}
use Rattle.properties.specs.Properties.{Owned, sought}
use Rattle.fdt.specs.Tokens.{after, ending}
use Rattle.fdt.specs.Unread.{Same, SameItems}
use Rattle.faults.specs.declared.fault.RouteFault.{RouteFault}
use Rattle.rules.specs.declared.walk.Walk.{Walk}
use Rattle.tree.specs.declared.tree.Tree.{Tree}
use Rattle.tree.specs.Nodes.{Listed, listed, broken, all_nodes}
use Rattle.tree.specs.Phandles.{held, phandles, GoodPhandles}
use Rattle.rules.specs.Rules.{walked}
use Rattle.rules.specs.Trees.{OneTree}

abbrev pub blob_source : Blob → Source
blob_source b = source b.bytes.now b.header

abbrev pub walked_seen : Result Blob TokenFault → Result Source TokenFault
walked_seen (Ok b) = Ok (blob_source b)
walked_seen (Err f) = Err f

abbrev pub tree_seen : Result Tree RouteFault → Result Source RouteFault
tree_seen (Ok t) = Ok (blob_source t.blob)
tree_seen (Err f) = Err f

-- a header's fault, held whole
abbrev pub header_held : {X : Type 0} → Result X HeaderFault → Result X TokenFault
header_held (Ok x) = Ok x
header_held (Err f) = Err (fault.Header f)

abbrev pub source_walked : Source → Result Walk TokenFault
source_walked s = walked s.bytes s.header

-- a good header, then good tokens
abbrev pub walked_of : List ℕ → Result Source TokenFault
walked_of b = after (header_held (blob_of b)) (λ s. after (source_walked s) (λ w. Ok s))

-- then good phandles
abbrev pub open_of : List ℕ → Result Source RouteFault
open_of b = after (held (walked_of b)) (λ s. after (phandles (all_nodes s.bytes s.header)) (λ n. Ok s))

-- Every node was read, and its property of any name is found or absent.
abbrev pub Readable : List Listed → Type 0
Readable [] = Unit {0}
Readable (broken f ∷ es) = ⊥
Readable (listed e ∷ es) = ((name : List ℕ) → (o : Option Owned) × (sought name e.rest ≡ Ok o)) × Readable es

-- Nothing of an opened tree is refused.
abbrev pub ReadsAll : Result Source RouteFault → Type 0
ReadsAll r = (s : Source) → r ≡ Ok s → Readable (all_nodes s.bytes s.header)

-- The blob s at the front of b: its header is good, its tokens are one tree, and its phandles are good.
pub record Opened (b : List ℕ) (s : Source) : Type 0 where
  pub header : header_of b ≡ Ok s.header
  pub bytes : s.bytes ≡ take s.header.total b
  pub tree : OneTree (ending s.header) (all_items s.bytes s.header)
  pub phandles : GoodPhandles (all_nodes s.bytes s.header)

-- Opening accepts exactly such blobs.
abbrev pub Opens : List ℕ → Result Source RouteFault → Type 0
Opens b r = (s : Source) → Exactly (r ≡ Ok s) (Opened b s)

-- c has the bytes of b wherever they are read: in the header, and in the blob's tokens and the names of properties.
pub record SameRead (b c : List ℕ) : Type 0 where
  pub size : length b ≡ length c
  pub header : Same b c 0 40
  pub names : (s : Source) → blob_of b ≡ Ok s → Same s.bytes (take s.header.total c) s.header.strings (s.header.strings + s.header.strings_size)
  pub tokens : (s : Source) → blob_of b ≡ Ok s → SameItems s.bytes (take s.header.total c) s.header (all_items s.bytes s.header)

-- what opening says, without the bytes
abbrev pub verdict : Result Source RouteFault → Result Header RouteFault
verdict (Ok s) = Ok s.header
verdict (Err f) = Err f

-- Bytes that are not read, padding among them, do not matter: the same is refused, or accepted with the same tokens.
pub record DecidedBy (b : List ℕ) (r : Result Source RouteFault) : Type 0 where
  pub verdicts : (c : List ℕ) → SameRead b c → verdict r ≡ verdict (open_of c)
  pub tokens : (c : List ℕ) → SameRead b c → (s : Source) → r ≡ Ok s → all_items s.bytes s.header ≡ all_items (take s.header.total c) s.header
