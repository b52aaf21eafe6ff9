-- Two stacks that are gone down at once.
use Rattle.std.proofs.Common.{◌≡◌, ◌≢◌, ℕ, suc, ◌⊎◌, inl, inr, List, [], ◌∷◌, ◌++◌, Option, Some, None, Bool, true, false, refl, sym, ap, ◌∙◌, arith, length}
use Rattle.std.specs.Prelude.{◌||◌, ◌↔◌, IsTrue, MatchOption, not}
use Rattle.px_program.specs.Formed.{AreTypes}
use Rattle.px_program.specs.declared.program.TypeInfo.{TypeInfo}
use Rattle.px_verify_kinds.specs.Kinds.{merge, merge_kind, put_on}
use Rattle.px_verify_kinds.specs.declared.kind.Kind.{Kind}
use Rattle.px_verify_kinds.specs.declared.kind.Kind.TheVariants as kinds
use Rattle.px_verify_kinds.specs.Stacks.{IsMerged, IsStack, held, kinds_of}
use Rattle.px_verify_kinds.specs.declared.stacks.Cell.{Cell}
use Rattle.px_verify_kinds.specs.declared.stacks.Stack.{Stack}
use Rattle.px_verify_kinds.proofs.Lines.{common_itself}

-- kinds above what something becomes
abbrev pub put_all : List Kind → Option (List Kind) → Option (List Kind)
put_all [] below = below
put_all (kind ∷ more) below = put_on (Some kind) (put_all more below)

put_none : (tops : List Kind) → put_all tops None ≡ None
put_none [] = refl
put_none (kind ∷ more) = ap (put_on (Some kind)) (put_none more)

put_some : (tops below : List Kind) → put_all tops (Some below) ≡ Some (tops ++ below)
put_some [] below = refl
put_some (kind ∷ more) below = ap (put_on (Some kind)) (put_some more below)

put_one : (tops : List Kind) (kind : Kind) (below : Option (List Kind)) → put_all tops (put_on (Some kind) below) ≡ put_all (tops ++ kind ∷ []) below
put_one [] kind below = refl
put_one (top ∷ more) kind below = ap (put_on (Some top)) (put_one more kind below)

kind_itself : (types : List TypeInfo) → AreTypes types → (kind : Kind) → merge_kind types kind kind ≡ Some kind
kind_itself types are kinds.I = refl
kind_itself types are kinds.L = refl
kind_itself types are kinds.N = refl
kind_itself types are kinds.Null = refl
kind_itself types are (kinds.Ref type) = ap (λ t. Some (kinds.Ref t)) (common_itself types are type)

-- a stack that comes to itself changes nothing
pub merge_itself : (types : List TypeInfo) → AreTypes types → (stack : List Kind) → merge types stack stack ≡ Some stack
merge_itself types are [] = refl
merge_itself types are (kind ∷ below) = ap (λ k. put_on k (merge types below below)) (kind_itself types are kind) ∙ ap (put_on (Some kind)) (merge_itself types are below)

-- The first stack is some tops above what is left of it; so many kinds have been found, which differ from the tops where something changes.
pub record Walked (types : List TypeInfo) (whole given found : List Kind) (changes : Bool) (at other : List Kind) : Type 0 where
  pub tops : List Kind
  pub whole_is : whole ≡ tops ++ at
  pub long : length tops ≡ length found
  pub merged : merge types whole given ≡ put_all found (merge types at other)
  pub same : changes ≡ false → tops ≡ found
  pub differ : changes ≡ true → tops ≢ found

pub walked_start : (types : List TypeInfo) (whole given : List Kind) → Walked types whole given [] false whole given
walked_start types whole given = record { tops = []; whole_is = refl; long = refl; merged = refl; same = λ h. refl; differ = λ h. absurd (cc) }

one_more : (xs : List Kind) (x : Kind) → length (xs ++ x ∷ []) ≡ suc (length xs)
one_more [] x = refl
one_more (y ∷ xs) x = ap suc (one_more xs x)

assoc : (a b c : List Kind) → (a ++ b) ++ c ≡ a ++ (b ++ c)
assoc [] b c = refl
assoc (x ∷ a) b c = ap (λ l. x ∷ l) (assoc a b c)

firsts : (a b : List Kind) (x y : Kind) → length a ≡ length b → a ++ x ∷ [] ≡ b ++ y ∷ [] → (a ≡ b) × (x ≡ y)
firsts [] [] x y long is = (refl, cc)
firsts [] (w ∷ b) x y long is = absurd (cc)
firsts (v ∷ a) [] x y long is = absurd (cc)
firsts (v ∷ a) (w ∷ b) x y long is =
    let head : v ≡ w = cc in
    let tail : a ++ x ∷ [] ≡ b ++ y ∷ [] = cc in
    let rest = firsts a b x y (omega (arith, long)) tail in
    (let ends : a ≡ b = rest.0 in cc, rest.1)

pub walked_step : (types : List TypeInfo) (whole given found : List Kind) (changes : Bool) (at other below others : List Kind) (top given_top kind : Kind) (differs : Bool) → Walked types whole given found changes at other
    → at ≡ top ∷ below → other ≡ given_top ∷ others → merge_kind types top given_top ≡ Some kind → (differs ≡ true → kind ≢ top) → (differs ≡ false → kind ≡ top)
    → Walked types whole given (found ++ kind ∷ []) (changes || differs) below others
walked_step types whole given found changes at other below others top given_top kind differs w at_is other_is merges apart alike = record {
  tops = w.tops ++ top ∷ [];
  whole_is = w.whole_is ∙ ap (λ l. w.tops ++ l) at_is ∙ sym (assoc w.tops (top ∷ []) below);
  long = one_more w.tops top ∙ ap suc w.long ∙ sym (one_more found kind);
  merged = w.merged ∙ ap (λ l. put_all found (merge types l other)) at_is ∙ ap (λ l. put_all found (merge types (top ∷ below) l)) other_is ∙ ap (λ k. put_all found (put_on k (merge types below others))) merges ∙ put_one found kind (merge types below others);
  same = λ h. let both = neither changes differs h in
      ap (λ l. l ++ top ∷ []) (w.same both.0) ∙ ap (λ k. found ++ k ∷ []) (sym (alike both.1));
  differ = λ h equal. let parts = firsts w.tops found top kind w.long equal in
      elim (some changes differs h) [
        | inl one ↦ w.differ one parts.0
        | inr other ↦ apart other (sym parts.1)
      ];
}
  where
    neither : (a b : Bool) → (a || b) ≡ false → (a ≡ false) × (b ≡ false)
    neither true b h = absurd (cc)
    neither false b h = (refl, h)

    some : (a b : Bool) → (a || b) ≡ true → (a ≡ true) ⊎ (b ≡ true)
    some true b h = inl refl
    some false b h = inr h

-- where kinds clash, or only one stack ends, they don't merge
pub walked_clash : (types : List TypeInfo) (whole given found : List Kind) (changes : Bool) (at other below others : List Kind) (top given_top : Kind) → Walked types whole given found changes at other → at ≡ top ∷ below → other ≡ given_top ∷ others → merge_kind types top given_top ≡ None → merge types whole given ≡ None
walked_clash types whole given found changes at other below others top given_top w at_is other_is clash =
    w.merged ∙ ap (λ l. put_all found (merge types l other)) at_is ∙ ap (λ l. put_all found (merge types (top ∷ below) l)) other_is ∙ ap (λ k. put_all found (put_on k (merge types below others))) clash ∙ put_none found

pub walked_short : (types : List TypeInfo) (whole given found : List Kind) (changes : Bool) (at other others : List Kind) (given_top : Kind) → Walked types whole given found changes at other → at ≡ [] → other ≡ given_top ∷ others → merge types whole given ≡ None
walked_short types whole given found changes at other others given_top w at_is other_is = w.merged ∙ ap (λ l. put_all found (merge types l other)) at_is ∙ ap (λ l. put_all found (merge types [] l)) other_is ∙ put_none found

pub walked_long : (types : List TypeInfo) (whole given found : List Kind) (changes : Bool) (at other below : List Kind) (top : Kind) → Walked types whole given found changes at other → at ≡ top ∷ below → other ≡ [] → merge types whole given ≡ None
walked_long types whole given found changes at other below top w at_is other_is = w.merged ∙ ap (λ l. put_all found (merge types l other)) at_is ∙ ap (λ l. put_all found (merge types (top ∷ below) l)) other_is ∙ put_none found

firsts_of : (a b x y : List Kind) → length a ≡ length b → a ++ x ≡ b ++ y → a ≡ b
firsts_of [] [] x y long is = refl
firsts_of [] (w ∷ b) x y long is = absurd (cc)
firsts_of (v ∷ a) [] x y long is = absurd (cc)
firsts_of (v ∷ a) (w ∷ b) x y long is =
    let head : v ≡ w = cc in
    let tail : a ++ x ≡ b ++ y = cc in
    let rest : a ≡ b = firsts_of a b x y (omega (arith, long)) tail in cc

-- where both are one stack, nothing below changes
pub walked_merged : (types : List TypeInfo) → AreTypes types → (whole given found : List Kind) (changes : Bool) (at other : List Kind) → Walked types whole given found changes at other → at ≡ other → merge types whole given ≡ Some (found ++ at)
walked_merged types are whole given found changes at other w one = w.merged ∙ ap (λ l. put_all found (merge types at l)) (sym one) ∙ ap (put_all found) (merge_itself types are at) ∙ put_some found at

pub walked_same : (types : List TypeInfo) (whole given found : List Kind) (changes : Bool) (at other : List Kind) → Walked types whole given found changes at other → changes ≡ false → found ++ at ≡ whole
walked_same types whole given found changes at other w none = sym (w.whole_is ∙ ap (λ l. l ++ at) (w.same none))

pub walked_other : (types : List TypeInfo) (whole given found : List Kind) (changes : Bool) (at other : List Kind) → Walked types whole given found changes at other → changes ≡ true → found ++ at ≢ whole
walked_other types whole given found changes at other w some = λ equal. w.differ some (sym (firsts_of found w.tops at at (sym w.long) (equal ∙ w.whole_is)))

-- ON STACKS

-- where the first stack ends and the second one is another, they don't merge
pub no_first : (types : List TypeInfo) (cells : List Cell) (whole given found : List Kind) (changes : Bool) (at other : Stack) → Walked types whole given found changes (kinds_of cells at) (kinds_of cells other)
    → kinds_of cells at ≡ [] → at.top ≡ 0 → (popped : Option (Kind × Stack)) → MatchOption popped (kinds_of cells other ≡ []) (λ top. kinds_of cells other ≡ top.0 ∷ kinds_of cells top.1)
    → MatchOption popped (other.top ≡ 0) (λ top. IsStack cells top.1) → (at.top ≡ other.top → ⊥) → merge types whole given ≡ None
no_first types cells whole given found changes at other w empty bottom None none there apart = absurd (apart (bottom ∙ sym there))
no_first types cells whole given found changes at other w empty bottom (Some top) some there apart = walked_short types whole given found changes (kinds_of cells at) (kinds_of cells other) (kinds_of cells top.1) top.0 w empty some

pub one_stack : (types : List TypeInfo) → AreTypes types → (cells : List Cell) (standing given : Stack) (found : List Kind) (changes : Bool) (at other : Stack) → IsStack cells at
    → Walked types (kinds_of cells standing) (kinds_of cells given) found changes (kinds_of cells at) (kinds_of cells other) → at.top ≡ other.top → IsMerged types cells standing given found at changes
one_stack types are cells standing given found changes at other there w one =
    let whole = kinds_of cells standing in
    let second = kinds_of cells given in
    record {
      there = there;
      merged = walked_merged types are whole second found changes (kinds_of cells at) (kinds_of cells other) w (ap (λ n. held cells n) one);
      same = walked_same types whole second found changes (kinds_of cells at) (kinds_of cells other) w;
      other = walked_other types whole second found changes (kinds_of cells at) (kinds_of cells other) w;
    }

merge_long : (types : List TypeInfo) (xs ys : List Kind) → (length xs ≡ length ys → ⊥) → merge types xs ys ≡ None
merge_long types [] [] apart = absurd (apart refl)
merge_long types [] (y ∷ ys) apart = refl
merge_long types (x ∷ xs) [] apart = refl
merge_long types (x ∷ xs) (y ∷ ys) apart = ap (put_on (merge_kind types x y)) (merge_long types xs ys (λ same. apart (ap suc same))) ∙ nothing (merge_kind types x y)
  where
    nothing : (kind : Option Kind) → put_on kind None ≡ None
    nothing None = refl
    nothing (Some kind) = refl

-- stacks of different heights don't merge
pub heights_apart : (types : List TypeInfo) (xs ys : List Kind) (n m : ℕ) → n ≡ length xs → m ≡ length ys → (n ≡ m → ⊥) → None ≡ merge types xs ys
heights_apart types xs ys n m first second apart = sym (merge_long types xs ys (λ same. apart (first ∙ same ∙ sym second)))

pub when_none : {X : Type 0} (A : Type 0) (B : X → Type 0) (o : Option X) → MatchOption o A B → o ≡ None → A
when_none A B None holds is = holds
when_none A B (Some x) holds is = absurd (cc)

pub differs_when : (stays : Bool) (Same : Type 0) → (IsTrue stays ↔ Same) → not stays ≡ true → Same → ⊥
differs_when true Same tells h same = absurd (cc)
differs_when false Same tells h same = let wrong : false ≡ true = tells.1 same in absurd (cc)

pub alike_when : (stays : Bool) (Same : Type 0) → (IsTrue stays ↔ Same) → not stays ≡ false → Same
alike_when true Same tells h = tells.0 refl
alike_when false Same tells h = absurd (cc)
