-- Streams that are found, one header after the other.
use Rattle.std.proofs.Common.{◌≡◌, ◌≤◌, ◌<◌, ◌+◌, ◌-◌, ℕ, suc, Bool, true, false, List, [], ◌∷◌, length, Option, Some, None, Result, Ok, Err, refl, ◌∙◌, ap, arith, ◌⊎◌, inl, inr}
use Rattle.std.specs.Prelude.{codes, if◌then◌else◌, unwrap_or}
use Rattle.std.specs.List.{position, position_or_len}
use Rattle.std.specs.Str.{bytes_eq}
use Rattle.std.proofs.lemmas.Bool.{cases_lt, lt-ltb, le-ltb}
use Rattle.px_tables.specs.declared.fault.TableFault.{TableFault}
use Rattle.px_tables.specs.declared.streams.Found.{Found}
use Rattle.px_tables.specs.declared.streams.Root.{Root}
use Rattle.px_tables.specs.Reading.{Part}
use Rattle.px_reading.specs.Reading.{◌>>=◌}
use Rattle.px_tables.specs.Streams.{Stream, behind, found_in, found_of, named, or_earlier, padded, stream_at, streams_at, with_stream}

bound : (p : ℕ → Bool) (xs : List ℕ) → position_or_len p xs ≤ length xs
bound p [] = omega arith
bound p (x ∷ xs) = by_test (p x) refl (bound p xs)
  where
    by_test : (b : Bool) → p x ≡ b → position_or_len p xs ≤ length xs → position_or_len p (x ∷ xs) ≤ length (x ∷ xs)
    by_test true e less = rw e (omega arith)
    by_test false e less = rw e (omega arith)

-- how many bytes stand before the first that passes the test, or how many there are
pub len_is : (p : ℕ → Bool) (xs : List ℕ) (r : Option ℕ) → r ≡ position p xs → unwrap_or r (length xs) ≡ position_or_len p xs
len_is p xs r is = rw is (by_cases (cases_lt (position_or_len p xs) (length xs)))
  where
    by_cases : (position_or_len p xs < length xs) ⊎ (length xs ≤ position_or_len p xs) → unwrap_or (position p xs) (length xs) ≡ position_or_len p xs
    by_cases (inl inside) = rw (lt-ltb _ _ inside) refl
    by_cases (inr outside) = rw (le-ltb _ _ outside) (omega (arith, bound p xs))

-- the streams behind those that were found
abbrev pub with_all : Found → List Stream → Found
with_all found [] = found
with_all found (stream ∷ streams) = with_all (with_stream found stream) streams

abbrev pub left : ℕ → List ℕ → ℕ → Found → Result Found TableFault
left n metadata at found = streams_at n metadata at >>= λ streams. Ok (with_all found streams)

one_less : (count n : ℕ) → n < count → count - n ≡ suc (count - (n + 1))
one_less count n more = omega arith

-- one more header
pub header_more : (count n : ℕ) (metadata : List ℕ) (at : ℕ) (found : Found) (stream : Stream) → n < count → stream_at metadata at ≡ Ok stream
    → left (count - n) metadata at found ≡ left (count - (n + 1)) metadata (behind at stream) (with_stream found stream)
unfolding streams_at
header_more count n metadata at found stream more is = rw (one_less count n more, is) (same (streams_at (count - (n + 1)) metadata (behind at stream)))
  where
    same : (r : Result (List Stream) TableFault) → ((r >>= λ rest. Ok (stream ∷ rest)) >>= λ streams. Ok (with_all found streams)) ≡ (r >>= λ streams. Ok (with_all (with_stream found stream) streams))
    same (Ok rest) = refl
    same (Err e) = refl

-- the fault of a header is that of all
pub header_fails : (count n : ℕ) (metadata : List ℕ) (at : ℕ) (found : Found) (fault : TableFault) → n < count → stream_at metadata at ≡ Err fault → left (count - n) metadata at found ≡ Err fault
unfolding streams_at
header_fails count n metadata at found fault more is = rw (one_less count n more, is) refl

pub no_more : (count n : ℕ) (metadata : List ℕ) (at : ℕ) (found : Found) → count ≤ n → left (count - n) metadata at found ≡ Ok found
unfolding streams_at
no_more count n metadata at found all = let e : count - n ≡ 0 = omega arith in rw e refl

-- the first of a name, where some were found earlier
chosen : Option Part → List Stream → List ℕ → Option Part
chosen None streams name = named streams name
chosen (Some part) streams name = Some part

chosen_none : (o : Option Part) (name : List ℕ) → chosen o [] name ≡ o
unfolding chosen
chosen_none None name = refl
chosen_none (Some part) name = refl

chosen_more : (o : Option Part) (stream : Stream) (streams : List Stream) (name : List ℕ) → chosen (or_earlier o stream name) streams name ≡ chosen o (stream ∷ streams) name
unfolding chosen
chosen_more (Some part) stream streams name = refl
chosen_more None stream streams name = by_test (bytes_eq stream.name name) refl
  where
    by_test : (b : Bool) → bytes_eq stream.name name ≡ b → chosen (if bytes_eq stream.name name then Some stream.part else None) streams name ≡ named (stream ∷ streams) name
    by_test true e = rw e refl
    by_test false e = rw e refl

with_all_is : (found : Found) (streams : List Stream)
    → with_all found streams ≡ record {
      tables = chosen found.tables streams (codes "#~");
      strings = chosen found.strings streams (codes "#Strings");
      user_strings = chosen found.user_strings streams (codes "#US");
      guid = chosen found.guid streams (codes "#GUID");
      blob = chosen found.blob streams (codes "#Blob");
    }
unfolding with_stream
with_all_is found [] =
    let a = chosen_none found.tables (codes "#~") in
    let b = chosen_none found.strings (codes "#Strings") in
    let d = chosen_none found.user_strings (codes "#US") in
    let e = chosen_none found.guid (codes "#GUID") in
    let f = chosen_none found.blob (codes "#Blob") in
    rw (a, b, d, e, f) refl
with_all_is found (s ∷ ss) =
    let a = chosen_more found.tables s ss (codes "#~") in
    let b = chosen_more found.strings s ss (codes "#Strings") in
    let d = chosen_more found.user_strings s ss (codes "#US") in
    let e = chosen_more found.guid s ss (codes "#GUID") in
    let f = chosen_more found.blob s ss (codes "#Blob") in
    with_all_is (with_stream found s) ss ∙ rw (a, b, d, e, f) refl

-- all that are found are the first of their names
pub all_found : (streams : List Stream) → with_all (found_of []) streams ≡ found_of streams
unfolding found_of chosen
all_found streams = with_all_is _ streams

pub found_is : (metadata : List ℕ) (root : Root) → left root.count metadata root.first (found_of []) ≡ found_in metadata root
unfolding found_in
found_is metadata root = same (streams_at root.count metadata root.first)
  where
    same : (r : Result (List Stream) TableFault) → (r >>= λ streams. Ok (with_all (found_of []) streams)) ≡ (r >>= λ streams. Ok (found_of streams))
    same (Ok streams) = ap (λ found. Ok found) (all_found streams)
    same (Err e) = refl

pub place_behind : (at size : ℕ) (v w : Stream) → v ≡ w → size ≡ padded (length v.name + 1) → at + (8 + size) ≡ behind at w
place_behind at size v w same is = let e = is ∙ ap (λ (s : Stream). padded (length s.name + 1)) same in omega (arith, e)
