-- A blob: the bytes up to the total size, and the header.
use Rattle.std.specs.Prelude.{◌≡◌, ℕ, ◌+◌, ◌-◌, ◌≤◌, List, length, take, Ok, Err, Result, slice_range}
use Rattle.std.specs.List.{suffix_len}
use Rattle.fdt.specs.declared.blob.Blob.{Blob}
use Rattle.cells.specs.declared.header.Header.{Header}
use Rattle.faults.specs.declared.fault.HeaderFault.{HeaderFault}
use Rattle.cells.specs.Cells.{cell, nonzero}
use Rattle.cells.specs.Headers.{header_of}

pub record Source : Type 0 where
  pub bytes : List ℕ
  pub header : Header

abbrev pub source : List ℕ → Header → Source
source b h = record { bytes = b; header = h }

abbrev pub blob_seen : Result Blob HeaderFault → Result Source HeaderFault
blob_seen (Ok b) = Ok (source b.bytes.now b.header)
blob_seen (Err f) = Err f

abbrev pub blob_from : List ℕ → Result Header HeaderFault → Result Source HeaderFault
blob_from b (Ok h) = Ok (source (take h.total b) h)
blob_from b (Err f) = Err f

-- the blob at the front of the bytes
abbrev pub blob_of : List ℕ → Result Source HeaderFault
blob_of b = blob_from b (header_of b)

abbrev pub strings_block : List ℕ → Header → List ℕ
strings_block b h = slice_range b h.strings (h.strings + h.strings_size)

-- where the last zero byte stands, 0 where there is none
abbrev pub last_zero : List ℕ → ℕ
last_zero b = length b - (suffix_len nonzero b + 1)

-- c begins with the same bytes as b, up to the total size that b gives
pub record SameFront (b c : List ℕ) : Type 0 where
  pub least : 40 ≤ cell b 4
  pub whole : cell b 4 ≤ length b
  pub other : cell b 4 ≤ length c
  pub same : take (cell b 4) b ≡ take (cell b 4) c
