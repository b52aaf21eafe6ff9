-- The fields of a type of the assembly, by their rows.
use Rattle.std.proofs.Common.{◌≡◌, ℕ, ◌+◌, ◌-◌, ◌%◌, ◌^◌, ◌<◌, ◌≤◌, Bool, true, false, List, ◌++◌, length, map, append-nil, Some, refl, sym, ap, ◌∙◌, subst, inl, inr, ⊎_elim, arith, eq-eqb}
use Rattle.std.specs.Prelude.{◌&&◌, filter, not, slice_get, slice_index}
use Rattle.std.specs.List.{AllZip, range_with_len}
use Rattle.std.specs.Option.{option_map}
use Rattle.std.proofs.lemmas.Bool.{and_from, and_left, and_right, cases_lt, not_from_false, not_from_true}
use Rattle.std.proofs.lemmas.List.{length-map}
use Rattle.std.proofs.lemmas.Option.{slice_get-map, slice_get_within}
use Rattle.px_asm_law_written.proofs.DescribedLists.{all_pass, filter_joined, flat_at, item_at, left_at, none_pass, range_at_is, range_length, right_at}
use Rattle.px_link_methods.proofs.RowPlaces.{beside, zip_at}
use Rattle.px_asm_law_written.proofs.DescribedMembers.{fields_before, fields_listed, fields_next, kind}
use Rattle.px_asm_law_written.proofs.DescribedOwners.{not_of, owner_listed, type_end}
use Rattle.px_asm_law_written.proofs.DescribedView.{Put, cell_written, rows_at, sig_written, store, view}
use Rattle.px_asm_law_written.specs.Holds.{IsFieldDef}
use Rattle.px_asm_law_written.specs.Tokens.{fields_in, fields_of}
use Rattle.px_meta.specs.Members.{owner_of}
use Rattle.px_meta.specs.Rows.{cell, count_of, fields}
use Rattle.px_program.specs.declared.program.Place.{Place}
use Rattle.px_program.specs.declared.program.TypeInfo.{TypeInfo}
use Rattle.px_asm_described.specs.Describes.{IsFieldRow}
use Rattle.px_sig.specs.Grammar.{field_sig}
use Rattle.px_tables.specs.Counts.{has_bit}
use Rattle.px_link_types.specs.Numbers.{instance_fields, is_field_of, is_static_field, static_fields}

-- those between two numbers of a range pass
kept_middle : (p : ℕ → Bool) (m n rest : ℕ) → ((r : ℕ) → 1 ≤ r → r < 1 + m → p r ≡ false) → ((r : ℕ) → 1 + m ≤ r → r < 1 + m + n → p r ≡ true) → ((r : ℕ) → 1 + m + n ≤ r → r < 1 + m + n + rest → p r ≡ false)
    → filter p (range_with_len 1 (m + (n + rest))) ≡ range_with_len (1 + m) n
kept_middle p m n rest first middle last =
    filter_joined p 1 m (n + rest) ∙ ap (λ l. l ++ filter p (range_with_len (1 + m) (n + rest))) (none_pass p 1 m first)
    ∙ filter_joined p (1 + m) n rest ∙ ap (λ l. filter p (range_with_len (1 + m) n) ++ l) (none_pass p (1 + m + n) rest last)
    ∙ append-nil (filter p (range_with_len (1 + m) n)) ∙ all_pass p (1 + m) n middle

-- the row of a field
pub record HasField (a : Put) (n : ℕ) (field : Bool × Place) : Type 0 where
  pub static : is_static_field (view a) (n + 1) ≡ field.0
  pub is : IsFieldRow a.p (view a) field.1 (n + 1)

field_at : (a : Put) (n : ℕ) (field : Bool × Place) → slice_get (fields_of a.p a.p.layout.types) n ≡ Some field → HasField a n field
field_at a n field at =
    let found = beside (IsFieldDef a.p (store a)) (fields_of a.p a.p.layout.types) (rows_at a 0x04) a.written.holds.fields n field at in
    record {
      static = ap (λ (c : ℕ). has_bit (c % 2 ^ 16) 4) (cell_written a 0x04 n 0 found.0 found.1.0) ∙ found.1.1.static;
      is = record {
        type = found.1.1.type;
        has_sig = sig_written a field_sig (slice_index found.0.cells 2) (cell (view a) fields (n + 1) 2) found.1.1.type (cell_written a 0x04 n 2 found.0 found.1.0) found.1.1.sig;
        is = found.1.1.is;
      };
    }

pub mapped_at : {X Y : Type 0} (f : X → Y) (xs : List X) (k : ℕ) (x : X) → slice_get xs k ≡ Some x → slice_get (map f xs) k ≡ Some (f x)
mapped_at f xs k x at = slice_get-map f xs k ∙ ap (option_map f) at

module _ (a : Put) (i type : ℕ) (info : TypeInfo) (at : slice_get a.p.layout.types i ≡ Some type) (is : slice_get a.p.types type ≡ Some info) where
  own_field : (k n : ℕ) (field : Bool × Place) → slice_get (fields_in (Some info)) k ≡ Some field → n ≡ fields_before a i + k → HasField a n field
  own_field k n field own e =
      field_at a n field (flat_at (λ t. fields_in (slice_get a.p.types t)) a.p.layout.types i k n type field at (ap (λ o. slice_get (fields_in o) k) is ∙ own) e)

  instance_at : (k n : ℕ) (place : Place) → slice_get info.fields k ≡ Some place → n ≡ fields_before a i + k → HasField a n (false, place)
  instance_at k n place own e =
      let mapped = mapped_at (kind false) info.fields k place own in
      own_field k n (false, place) (left_at (map (kind false) info.fields) (map (kind true) info.statics) k (slice_get_within (map (kind false) info.fields) k (false, place) mapped) ∙ mapped) e

  static_at : (k n : ℕ) (place : Place) → slice_get info.statics k ≡ Some place → n ≡ fields_before a i + (length info.fields + k) → HasField a n (true, place)
  static_at k n place own e =
      let mapped = mapped_at (kind true) info.statics k place own in
      let size = length-map info.fields (kind false) in
      own_field (length info.fields + k) n (true, place) (right_at (map (kind false) info.fields) (map (kind true) info.statics) k (length info.fields + k) (omega arith) ∙ mapped) e

  less : i < length a.p.layout.types
  less = slice_get_within a.p.layout.types i type at

  next : fields_before a (i + 1) ≡ fields_before a i + (length info.fields + length info.statics)
  next = fields_next a i type info at is

  early : (f : ℕ) → f < 1 + fields_before a i → is_field_of (view a) (i + 2) f ≡ false
  early f few = not_of (view a) (i + 2) f (omega arith) (inl (let begins = (fields_listed a).each i less in omega arith))

  late : (f : ℕ) → 1 + fields_before a i + (length info.fields + length info.statics) ≤ f → is_field_of (view a) (i + 2) f ≡ false
  late f many =
      not_of (view a) (i + 2) f (omega arith)
      (inr (let ends = type_end (view a) fields (length a.p.layout.types) (fields_before a) (fields_listed a) i less in let on = next in omega arith))

  owned : (f : ℕ) → 1 + fields_before a i ≤ f → f < 1 + fields_before a i + (length info.fields + length info.statics) → is_field_of (view a) (i + 2) f ≡ true
  owned f many few =
      let back : (f - 1) + 1 ≡ f = omega arith in
      let on = next in
      eq-eqb _ (i + 2) (subst (λ m. owner_of (view a) fields m ≡ i + 2) back (owner_listed (view a) fields (length a.p.layout.types) (fields_before a) (fields_listed a) i (f - 1) less (omega arith) (omega arith)))

  plain : (f : ℕ) → 1 + fields_before a i ≤ f → f < 1 + fields_before a i + length info.fields → is_static_field (view a) f ≡ false
  plain f many few =
      let k = f - 1 - fields_before a i in
      let place = item_at info.fields k (omega arith) in
      let back : f - 1 + 1 ≡ f = omega arith in
      subst (λ m. is_static_field (view a) m ≡ false) back (instance_at k (f - 1) place.0 place.1 (omega arith)).static

  static : (f : ℕ) → 1 + fields_before a i + length info.fields ≤ f → f < 1 + fields_before a i + (length info.fields + length info.statics) → is_static_field (view a) f ≡ true
  static f many few =
      let k = f - 1 - fields_before a i - length info.fields in
      let place = item_at info.statics k (omega arith) in
      let back : f - 1 + 1 ≡ f = omega arith in
      subst (λ m. is_static_field (view a) m ≡ true) back (static_at k (f - 1) place.0 place.1 (omega arith)).static

  left : ℕ
  left = count_of (view a) fields - fields_before a (i + 1)

  whole : count_of (view a) fields ≡ fields_before a i + (length info.fields + length info.statics) + left
  unfolding left
  whole = let up = (fields_listed a).rises (i + 1) (length a.p.layout.types) (let few = less in omega arith) in let last = (fields_listed a).last in let on = next in omega arith

  -- the fields of instances come first
  pub instances_are : instance_fields (view a) (i + 2) ≡ range_with_len (1 + fields_before a i) (length info.fields)
  instances_are =
      let p : ℕ → Bool = λ f. is_field_of (view a) (i + 2) f && not (is_static_field (view a) f) in
      let size : count_of (view a) fields ≡ fields_before a i + (length info.fields + (length info.statics + left)) = let all = whole in omega arith in
      ap (λ n. filter p (range_with_len 1 n)) size
      ∙ kept_middle p (fields_before a i) (length info.fields) (length info.statics + left)
      (λ f some few. and_left (is_field_of (view a) (i + 2) f) (not (is_static_field (view a) f)) (early f few))
      (λ f many few. and_from (is_field_of (view a) (i + 2) f) (not (is_static_field (view a) f)) (owned f many (omega arith)) (not_from_false (is_static_field (view a) f) (plain f many few)))
      (λ f many few.
      ⊎_elim
      (λ own. and_right (is_field_of (view a) (i + 2) f) (not (is_static_field (view a) f)) (not_from_true (is_static_field (view a) f) (static f many own)))
      (λ behind. and_left (is_field_of (view a) (i + 2) f) (not (is_static_field (view a) f)) (late f behind))
      (cases_lt f (1 + fields_before a i + (length info.fields + length info.statics))))

  -- and the static ones behind them
  pub statics_are : static_fields (view a) (i + 2) ≡ range_with_len (1 + (fields_before a i + length info.fields)) (length info.statics)
  statics_are =
      let p : ℕ → Bool = λ f. is_field_of (view a) (i + 2) f && is_static_field (view a) f in
      let size : count_of (view a) fields ≡ fields_before a i + length info.fields + (length info.statics + left) = let all = whole in omega arith in
      ap (λ n. filter p (range_with_len 1 n)) size
      ∙ kept_middle p (fields_before a i + length info.fields) (length info.statics) left
      (λ f some few.
      ⊎_elim
      (λ before. and_left (is_field_of (view a) (i + 2) f) (is_static_field (view a) f) (early f before))
      (λ own. and_right (is_field_of (view a) (i + 2) f) (is_static_field (view a) f) (plain f own (omega arith)))
      (cases_lt f (1 + fields_before a i)))
      (λ f many few. and_from (is_field_of (view a) (i + 2) f) (is_static_field (view a) f) (owned f (omega arith) (omega arith)) (static f (omega arith) (omega arith)))
      (λ f many few. and_left (is_field_of (view a) (i + 2) f) (is_static_field (view a) f) (late f (omega arith)))

  pub instances_described : AllZip (IsFieldRow a.p (view a)) info.fields (instance_fields (view a) (i + 2))
  instances_described =
      subst (AllZip (IsFieldRow a.p (view a)) info.fields) (sym instances_are)
      (zip_at (IsFieldRow a.p (view a)) info.fields (range_with_len (1 + fields_before a i) (length info.fields)) (range_length (1 + fields_before a i) (length info.fields))
      (λ k place f own other.
      let found = range_at_is (1 + fields_before a i) (length info.fields) k f other in
      let same : fields_before a i + k + 1 ≡ f = omega (arith, found.0) in
      subst (IsFieldRow a.p (view a) place) same (instance_at k (fields_before a i + k) place own refl).is))

  pub statics_described : AllZip (IsFieldRow a.p (view a)) info.statics (static_fields (view a) (i + 2))
  statics_described =
      subst (AllZip (IsFieldRow a.p (view a)) info.statics) (sym statics_are)
      (zip_at (IsFieldRow a.p (view a)) info.statics (range_with_len (1 + (fields_before a i + length info.fields)) (length info.statics)) (range_length (1 + (fields_before a i + length info.fields)) (length info.statics))
      (λ k place f own other.
      let found = range_at_is (1 + (fields_before a i + length info.fields)) (length info.statics) k f other in
      let same : fields_before a i + (length info.fields + k) + 1 ≡ f = omega (arith, found.0) in
      subst (IsFieldRow a.p (view a) place) same (static_at k (fields_before a i + (length info.fields + k)) place own refl).is))
