-- Bytes that are not read do not matter to opening.
use Rattle.std.proofs.Common.{◌≡◌, ℕ, List, length, take, Ok, Err, Result, sym, refl, ap, ◌∙◌}
use Rattle.std.proofs.lemmas.List.{length-take}
use Rattle.cells.specs.declared.header.Header.{Header}
use Rattle.faults.specs.declared.fault.HeaderFault.{HeaderFault}
use Rattle.faults.specs.declared.fault.TokenFault.{TokenFault}
use Rattle.fdt.specs.Blobs.{Source, source, blob_from, blob_of}
use Rattle.cells.specs.Headers.{header_of}
use Rattle.fdt.specs.Items.{Item, all_items}
use Rattle.fdt.specs.Tokens.{after, ending}
use Rattle.fdt.proofs.Padding.{items_decided, header_decided}
use Rattle.rules.specs.declared.walk.Walk.{Walk}
use Rattle.rules.specs.Rules.{checked, beginning}
use Rattle.faults.specs.declared.fault.RouteFault.{RouteFault}
use Rattle.tree.specs.Nodes.{all_nodes, nodes}
use Rattle.tree.specs.Opening.{header_held, source_walked, open_of, SameRead, verdict, DecidedBy}
use Rattle.tree.specs.Phandles.{held, phandles}
use Rattle.tree.proofs.Opening.{open_parts, walk_parts, blob_parts}

-- the verdict on a blob, from its tokens
judged : Header → List Item → Result Header RouteFault
judged h ts = after (held (checked (ending h) (Ok (beginning h)) ts)) (λ w. after (phandles (nodes 0 ts)) (λ n. Ok h))

last : (s : Source) (p : Result ℕ RouteFault) → verdict (after p (λ n. Ok s)) ≡ after p (λ n. Ok s.header)
last s (Ok n) = refl
last s (Err f) = refl

walked_last : (s : Source) (w : Result Walk TokenFault)
    → verdict (after (held (after w (λ w. Ok s))) (λ s. after (phandles (all_nodes s.bytes s.header)) (λ n. Ok s)))
    ≡ after (held w) (λ w. after (phandles (all_nodes s.bytes s.header)) (λ n. Ok s.header))
walked_last s (Ok w) = last s (phandles (all_nodes s.bytes s.header))
walked_last s (Err f) = refl

verdict_of : (r : Result Source HeaderFault) → Result Header RouteFault
verdict_of r = verdict (after (held (after (header_held r) (λ s. after (source_walked s) (λ w. Ok s)))) (λ s. after (phandles (all_nodes s.bytes s.header)) (λ n. Ok s)))

judged_is : (s : Source) → verdict_of (Ok s) ≡ judged s.header (all_items s.bytes s.header)
unfolding judged verdict_of
judged_is s = walked_last s (source_walked s)

module _ (b c : List ℕ) (s : SameRead b c) where
  cut_same : (t : ℕ) → length (take t b) ≡ length (take t c)
  cut_same t = length-take t b ∙ ap (λ n. Prim.Native.Nat.min t n) s.size ∙ sym (length-take t c)

  tokens_same : (h : Header) → blob_of b ≡ Ok (source (take h.total b) h) → all_items (take h.total b) h ≡ all_items (take h.total c) h
  tokens_same h e =
      let o = source (take h.total b) h in
      items_decided (take h.total b) (take h.total c) h (cut_same h.total) (s.names o e) h.structure (s.tokens o e)

  by_header : (r : Result Header HeaderFault) → header_of b ≡ r → verdict_of (blob_from b r) ≡ verdict_of (blob_from c r)
  by_header (Err f) e = refl
  by_header (Ok h) e =
      judged_is (source (take h.total b) h) ∙ ap (judged h) (tokens_same h (ap (blob_from b) e)) ∙ sym (judged_is (source (take h.total c) h))

  verdict_same : verdict_of (blob_of b) ≡ verdict_of (blob_of c)
  verdict_same = by_header (header_of b) refl ∙ ap (λ r. verdict_of (blob_from c r)) (header_decided b c s.size s.header)

open_verdict : (b : List ℕ) → verdict (open_of b) ≡ verdict_of (blob_of b)
unfolding verdict_of
open_verdict b = refl

pub opens_decided : (b : List ℕ) (r : Result Source RouteFault) → r ≡ open_of b → DecidedBy b r
opens_decided b r e = record {
  verdicts = λ c s. ap verdict e ∙ open_verdict b ∙ verdict_same b c s ∙ sym (open_verdict c);
  tokens = λ c s o q.
      let parts = walk_parts b o (open_parts b o (sym e ∙ q)).0 in
      let front = (blob_parts b o (header_of b) parts.0).1 in
      items_decided o.bytes (take o.header.total c) o.header
      (ap length front ∙ cut_same b c s o.header.total) (s.names o parts.0) o.header.structure (s.tokens o parts.0);
}
