-- Opening accepts exactly a blob with a good header, the tokens of one tree, and good phandles.
use Rattle.std.proofs.Common.{◌≡◌, ℕ, List, [], take, Ok, Err, Result, sym, ap, ◌∙◌, subst}
use Rattle.cells.specs.declared.header.Header.{Header}
use Rattle.faults.specs.declared.fault.HeaderFault.{HeaderFault}
use Rattle.fdt.specs.Blobs.{Source, source, blob_from, blob_of}
use Rattle.cells.specs.Headers.{header_of}
use Rattle.fdt.specs.Items.{all_items}
use Rattle.fdt.specs.Tokens.{after, ending}
use Rattle.fdt.proofs.Onward.{after_by, ok_same}
use Rattle.faults.specs.declared.fault.RouteFault.{RouteFault}
use Rattle.rules.specs.declared.walk.Walk.{Walk}
use Rattle.tree.specs.Nodes.{all_nodes}
use Rattle.tree.specs.Opening.{header_held, source_walked, walked_of, open_of, Opened, Opens, ReadsAll}
use Rattle.tree.specs.Phandles.{held, phandles}
use Rattle.tree.proofs.Handles.{held_ok, accepted_fine, fine_accepted, fine_good, good_fine_all}
use Rattle.tree.proofs.Readable.{readable_nodes}
use Rattle.rules.proofs.Trees.{tree_accepted, accepted_tree}

header_held_ok : {X : Type 0} (r : Result X HeaderFault) (x : X) → header_held r ≡ Ok x → r ≡ Ok x
header_held_ok (Ok y) x e = cc
header_held_ok (Err f) x e = cc

-- a blob is its header and the bytes up to the total size
pub blob_parts : (b : List ℕ) (s : Source) (r : Result Header HeaderFault) → blob_from b r ≡ Ok s → (r ≡ Ok s.header) × (s.bytes ≡ take s.header.total b)
blob_parts b s (Ok h) e =
    let q : source (take h.total b) h ≡ s = ok_same e in
    let hh : h ≡ s.header = ap (λ z. z.header) q in
    (ap Ok hh, sym (ap (λ z. z.bytes) q) ∙ ap (λ (z : Header). take z.total b) hh)
blob_parts b s (Err f) e = cc

pub walk_parts : (b : List ℕ) (s : Source) → walked_of b ≡ Ok s → (blob_of b ≡ Ok s) × ((w : Walk) × (source_walked s ≡ Ok w))
walk_parts b s =
    after_by (header_held (blob_of b)) (λ s. after (source_walked s) (λ w. Ok s)) s (λ t et.
    after_by (source_walked t) (λ w. Ok t) s (λ w ew e.
    let q : t ≡ s = ok_same e in
    (header_held_ok (blob_of b) t et ∙ ap Ok q, (w, subst (λ (z : Source). source_walked z ≡ Ok w) q ew))))

pub open_parts : (b : List ℕ) (s : Source) → open_of b ≡ Ok s → (walked_of b ≡ Ok s) × ((n : ℕ) × (phandles (all_nodes s.bytes s.header) ≡ Ok n))
open_parts b s =
    after_by (held (walked_of b)) (λ s. after (phandles (all_nodes s.bytes s.header)) (λ n. Ok s)) s (λ t et.
    after_by (phandles (all_nodes t.bytes t.header)) (λ n. Ok t) s (λ n en e.
    let q : t ≡ s = ok_same e in
    (held_ok (walked_of b) t et ∙ ap Ok q, (n, subst (λ (z : Source). phandles (all_nodes z.bytes z.header) ≡ Ok n) q en))))

accepted_opened : (b : List ℕ) (s : Source) → open_of b ≡ Ok s → Opened b s
accepted_opened b s e =
    let o = open_parts b s e in
    let w = walk_parts b s o.0 in
    let p = blob_parts b s (header_of b) w.0 in
    record {
      header = p.0;
      bytes = p.1;
      tree = accepted_tree (ending s.header) s.header.structure (all_items s.bytes s.header) w.1.0 w.1.1;
      phandles = fine_good (all_nodes s.bytes s.header) (accepted_fine 0 o.1.0 [] (all_nodes s.bytes s.header) o.1.1);
    }

opened_accepted : (b : List ℕ) (s : Source) → Opened b s → open_of b ≡ Ok s
opened_accepted b s o =
    let h = s.header in
    let ts = all_items s.bytes h in
    let blob : blob_of b ≡ Ok s = ap (blob_from b) o.header ∙ ap (λ x. Ok (source x h)) (sym o.bytes) in
    let w = tree_accepted (ending h) h.structure ts o.tree in
    let reads = readable_nodes (ending h) w.0 h.structure ts w.1 in
    let n = fine_accepted 0 [] (all_nodes s.bytes h) reads (good_fine_all (all_nodes s.bytes h) o.phandles reads) in
    let walk : walked_of b ≡ Ok s = ap (λ r. after (header_held r) (λ s. after (source_walked s) (λ w. Ok s))) blob ∙ ap (λ r. after r (λ w. Ok s)) w.1 in
    ap (λ r. after (held r) (λ s. after (phandles (all_nodes s.bytes s.header)) (λ n. Ok s))) walk
    ∙ ap (λ r. after r (λ n. Ok s)) n.1

pub opens_exactly : (b : List ℕ) (r : Result Source RouteFault) → r ≡ open_of b → Opens b r
opens_exactly b r e s = record { only = λ q. accepted_opened b s (sym e ∙ q); every = λ o. e ∙ opened_accepted b s o }

-- nothing of an opened tree is refused
pub opens_readable : (b : List ℕ) (r : Result Source RouteFault) → r ≡ open_of b → ReadsAll r
opens_readable b r e s q =
    let o = open_parts b s (sym e ∙ q) in
    let w = walk_parts b s o.0 in
    readable_nodes (ending s.header) w.1.0 s.header.structure (all_items s.bytes s.header) w.1.1

-- equal blobs are opened alike
pub open_same : (b c : List ℕ) → blob_of b ≡ blob_of c → open_of b ≡ open_of c
open_same b c e = ap (λ r. after (held (after (header_held r) (λ s. after (source_walked s) (λ w. Ok s)))) (λ s. after (phandles (all_nodes s.bytes s.header)) (λ n. Ok s))) e
