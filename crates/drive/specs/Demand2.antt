-- Demand 2 for the drive record: what stands at each of the paper's offsets. `proofs/Demand2.antt` proves it of the record that is
-- written for a drive.
-- Assumes nothing.
use Rattle.std.specs.Prelude.{ℕ, ◌≡◌, List, length, get_or}
use Rattle.words.specs.Words.{le, part}
use Rattle.drive.specs.declared.Drive.{Drive}
use Rattle.drive.specs.Drive.{Fits, drive_length, record_of}

-- ---- "The drive table", the record of kind 1 by offset, and document 02, 2026-06, that of kind 2

-- what the bytes r say at each offset is what the drive d has
pub record ByOffset (d : Drive) (r : List ℕ) : Type 0 where
  -- 0 word: length, 68 or 76 by the kind; and so many bytes there are
  pub length_word : le 2 r 0 ≡ drive_length d.kind
  pub whole : length r ≡ drive_length d.kind
  -- 2 word: the kind
  pub kind : le 2 r 2 ≡ d.kind
  -- 4, 8, 12 double words: physical cylinders, heads, sectors
  pub cylinders : le 4 r 4 ≡ d.cylinders
  pub heads : le 4 r 8 ≡ d.heads
  pub sectors : le 4 r 12 ≡ d.sectors
  -- 16 quad word: blocks
  pub blocks : le 8 r 16 ≡ d.blocks
  -- 24 quad word: first store block
  pub first : le 8 r 24 ≡ d.first
  -- 32 word: information flags
  pub flags : le 2 r 32 ≡ d.flags
  -- 34, 36 words and 38 byte: the geometry C, H and S
  pub c : le 2 r 34 ≡ d.c
  pub h : le 2 r 36 ≡ d.h
  pub s : get_or r 38 0 ≡ d.s
  -- 39 byte: protection
  pub protection : get_or r 39 0 ≡ d.protection
  -- 40, four bytes: host bus
  pub bus : part 4 r 40 ≡ d.bus
  -- 44, 52, 60, eight bytes each: interface type, interface path, device path, of which kind 2 has eight bytes more at 68
  pub interface : part 8 r 44 ≡ d.interface
  pub path : part 8 r 52 ≡ d.path
  pub device : part 8 r 60 ≡ d.device
  pub tail : d.kind ≡ 2 → part 8 r 68 ≡ d.tail

-- each field of a drive at its offset, under the widths only
abbrev pub Demand2 : Type 0
Demand2 = (d : Drive) → Fits d → ByOffset d (record_of d)
