-- What is proved of metadata: bytes are accepted exactly when some metadata is written as them, only one is, and they are 7 otherwise.
use Rattle.std.specs.Prelude.{ℕ, ◌≤◌, ◌≡◌, List, length}
use Rattle.fields.specs.Formats.{IsWritten, TwoWay}
use Rattle.metadata.specs.Metadata.{Metadata, WellMetadata, encode_metadata, index_size}
use Rattle.metadata.specs.MetadataCheck.{index_size_in, metadata_fault}

-- some well formed metadata is written as these bytes
abbrev pub IsMetadata : List ℕ → Type 0
IsMetadata s = IsWritten WellMetadata encode_metadata s

pub record MetadataTheorems : Type 0 where
  pub two_way : TwoWay WellMetadata encode_metadata metadata_fault (λ n. n ≡ 7)
  -- the index size that is read is that of the metadata, and an accepted section is at least as long
  pub index_in : (m : Metadata) → WellMetadata m → index_size_in (encode_metadata m) ≡ index_size m
  pub index_within : (s : List ℕ) → metadata_fault s ≡ 0 → index_size_in s ≤ length s
