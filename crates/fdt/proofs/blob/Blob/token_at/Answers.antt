use Rattle.std.proofs.Common.{◌≡◌, ℕ, ◌+◌, ◌≤◌, List, IfOk, Ok, Err, Result, sym}
use Rattle.cells.specs.declared.header.Header.{Header}
use Rattle.fdt.specs.declared.token.Step.{Step}
use Rattle.faults.specs.declared.fault.TokenFault.{TokenFault}
use Rattle.fdt.specs.Tokens.{word, step_seen, token_at, ending}
use Rattle.fdt.proofs.Onward.{goes_on}
use Rattle.fdt.proofs.Padding.{decided}
use Rattle.fdt.proofs.blob.Blob.token_at.Goals as goal

step_goes : (b : List ℕ) (h : Header) (i : ℕ) (r : Result Step TokenFault) → step_seen r ≡ token_at b h i → IfOk r (λ s. (i + 4 ≤ s.next.0) × (i + 4 ≤ ending h))
step_goes b h i (Ok s) e = let g = goes_on b h i (word s.token) s.next.0 (sym e) in (g.1, g.0)
step_goes b h i (Err f) e = tt

pub returns-clause-decided : goal.returns-clause-decided
returns-clause-decided c = decided c.args.self.now.bytes.now c.args.self.now.header c.args.place.0 _ c.read_token.ensures

pub returns-clause-goes : goal.returns-clause-goes
returns-clause-goes c = step_goes c.args.self.now.bytes.now c.args.self.now.header c.args.place.0 _ c.read_token.ensures
