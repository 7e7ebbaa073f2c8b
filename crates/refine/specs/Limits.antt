-- The buckets, one for each hash, the links, one for each candidate, and the factor of the hash. In src/ they are the associated constants of
-- `Limits`.
use Rattle.std.specs.Prelude.{ℕ}

abbrev pub bucket_count : ℕ
bucket_count = 8161

abbrev pub link_count : ℕ
link_count = 32768

abbrev pub hash_factor : ℕ
hash_factor = 3001
