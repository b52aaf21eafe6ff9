-- One more record, or one whose path is there already.
use Rattle.std.proofs.Common.{◌≡◌, ◌≢◌, ℕ, suc, zero, ◌+◌, ◌*◌, ◌<◌, ◌≤◌, ◌^◌, List, [], ◌∷◌, ◌++◌, length, length-append, take, get_or, refl, sym, ap, ◌∙◌, subst, arith, inl, inr}
use Rattle.std.specs.List.{AllByRecursion}
use Rattle.std.specs.Prelude.{◌⊎◌}
use Rattle.px_domain.specs.declared.domain.Part.{Part}
use Rattle.px_domain.specs.Domain.{InDomain, IsTuple, ranges_of, size_of, tuple_of}
use Rattle.px_interp.specs.Run.{IsRun, Stands, course_of, path_of}
use Rattle.px_program.specs.declared.program.Program.{Program}
use Rattle.px_program.specs.declared.record.Bounds.{Bounds}
use Rattle.px_program.specs.declared.record.Record.{Record}
use Rattle.px_program.specs.Paths.{Path}
use Rattle.px_session.specs.Explored.{IsExplored}
use Rattle.px_tree.specs.Tree.{AreDistinct, HasPath, paths_of}

paths_push : (rs : List Record) (r : Record) → paths_of (rs ++ r ∷ []) ≡ paths_of rs ++ r.events ∷ []
paths_push [] r = refl
paths_push (x ∷ rs) r = ap (λ ps. x.events ∷ ps) (paths_push rs r)

has_left : (ps : List Path) (q p : Path) → HasPath ps p → HasPath (ps ++ q ∷ []) p
has_left [] q p h = absurd h
has_left (x ∷ ps) q p h = elim h [ inl e ↦ inl e | inr t ↦ inr (has_left ps q p t) ]

has_last : (ps : List Path) (q p : Path) → q ≡ p → HasPath (ps ++ q ∷ []) p
has_last [] q p e = inl e
has_last (x ∷ ps) q p e = inr (has_last ps q p e)

has_cases : (ps : List Path) (q p : Path) → HasPath (ps ++ q ∷ []) p → HasPath ps p ⊎ (q ≡ p)
has_cases [] q p h = elim h [ inl e ↦ inr e | inr t ↦ absurd t ]
has_cases (x ∷ ps) q p h = elim h [ inl e ↦ inl (inl e) | inr t ↦ elim (has_cases ps q p t) [ inl a ↦ inl (inr a) | inr b ↦ inr b ] ]

-- none of the first has it, and this one hasn't
pub still_none : (rs : List Record) (k : ℕ) (r : Record) (p : Path) → take (k + 1) rs ≡ take k rs ++ r ∷ [] → (HasPath (paths_of (take k rs)) p → ⊥) → r.events ≢ p
    → HasPath (paths_of (take (k + 1) rs)) p → ⊥
still_none rs k r p more none other has =
    let P : List Record → Type 0 = λ v. HasPath (paths_of v) p in
    let Q : List Path → Type 0 = λ v. HasPath v p in
    let h : HasPath (paths_of (take k rs) ++ r.events ∷ []) p = subst Q (paths_push (take k rs) r) (subst P more has) in
    elim (has_cases (paths_of (take k rs)) r.events p h) [ inl a ↦ none a | inr e ↦ other e ]

pub has_at : (rs : List Record) (k : ℕ) (r : Record) (p : Path) → k < length rs → r ≡ get_or rs k r → r.events ≡ p → HasPath (paths_of rs) p
has_at [] k r p less is e = absurd (omega arith)
has_at (x ∷ rs) zero r p less is e = inl (ap (λ v. v.events) (sym is) ∙ e)
has_at (x ∷ rs) (suc k) r p less is e = inr (has_at rs k r p (omega arith) is e)

distinct_push : (ps : List Path) (q : Path) → AreDistinct ps → (HasPath ps q → ⊥) → AreDistinct (ps ++ q ∷ [])
distinct_push [] q d none = ((λ h. h), tt)
distinct_push (x ∷ ps) q d none =
    ((λ h. elim (has_cases ps q x h) [ inl a ↦ d.0 a | inr e ↦ none (inl (sym e)) ]), distinct_push ps q d.1 (λ h. none (inr h)))

all_push : {X : Type 0} (P : X → Type 0) (xs : List X) (x : X) → AllByRecursion P xs → P x → AllByRecursion P (xs ++ x ∷ [])
all_push P [] x all one = (one, tt)
all_push P (y ∷ xs) x all one = (all.0, all_push P xs x all.1 one)

-- The records stand, their paths are distinct, and the first k tuples have one of them.
pub record Tried (program : Program) (domain : List Part) (bounds : Bounds) (k : ℕ) (records : List Record) : Type 0 where
  pub stand : AllByRecursion (Stands program domain bounds) records
  pub distinct : AreDistinct (paths_of records)
  pub complete : (n : ℕ) → n < k → HasPath (paths_of records) (path_of program domain bounds (tuple_of (ranges_of domain) n))
  pub few : length records ≤ k
  pub short : AllByRecursion (λ r. length r.events ≤ 2 * bounds.steps + 16) records

-- the record is the run of the tuple of this number
pub record IsOfTuple (program : Program) (domain : List Part) (bounds : Bounds) (k : ℕ) (r : Record) : Type 0 where
  pub words : r.words ≡ tuple_of (ranges_of domain) k
  pub within : InDomain domain r.words
  pub is_run : IsRun program domain bounds r
  pub short : length r.events ≤ 2 * bounds.steps + 16

pub of_tuple : (program : Program) (domain : List Part) (bounds : Bounds) (k : ℕ) (r : Record) (words : List ℕ) → r.words ≡ words → words ≡ tuple_of (ranges_of domain) k → InDomain domain words → IsRun program domain bounds r
    → length r.events ≤ 2 * bounds.steps + 16 → IsOfTuple program domain bounds k r
of_tuple program domain bounds k r words a b within is_run short =
    let P : List ℕ → Type 0 = λ w. InDomain domain w in
    record { words = a ∙ b; within = subst P (sym a) within; is_run = is_run; short = short }

split : (n k : ℕ) → n < k + 1 → (n < k) ⊎ (n ≡ k)
split n k h = grind arith

module _ (program : Program) (domain : List Part) (bounds : Bounds) (k : ℕ) (rs : List Record) (r : Record) (tried : Tried program domain bounds k rs) (one : IsOfTuple program domain bounds k r) where
  path_is : r.events ≡ path_of program domain bounds (tuple_of (ranges_of domain) k)
  path_is = ap (λ c. c.events) (sym one.is_run) ∙ ap (λ w. (course_of program domain bounds w).events) one.words

  add_new : (HasPath (paths_of rs) r.events → ⊥) → Tried program domain bounds (k + 1) (rs ++ r ∷ [])
  add_new none =
      let D : List Path → Type 0 = AreDistinct in
      record {
        stand = all_push (Stands program domain bounds) rs r tried.stand (record { within = one.within; is_run = one.is_run });
        distinct = subst D (sym (paths_push rs r)) (distinct_push (paths_of rs) r.events tried.distinct none);
        complete = λ n less.
            let P : List Path → Type 0 = λ v. HasPath v (path_of program domain bounds (tuple_of (ranges_of domain) n)) in
            subst P (sym (paths_push rs r))
            (elim (split n k less) [
              | inl a ↦ has_left (paths_of rs) r.events (path_of program domain bounds (tuple_of (ranges_of domain) n)) (tried.complete n a)
              | inr e ↦ has_last (paths_of rs) r.events (path_of program domain bounds (tuple_of (ranges_of domain) n)) (path_is ∙ ap (λ m. path_of program domain bounds (tuple_of (ranges_of domain) m)) (sym e))
            ]);
        few = omega (arith, tried.few, length-append rs (r ∷ []));
        short = all_push (λ x. length x.events ≤ 2 * bounds.steps + 16) rs r tried.short one.short;
      }

  add_old : HasPath (paths_of rs) r.events → Tried program domain bounds (k + 1) rs
  add_old has = record {
    stand = tried.stand;
    distinct = tried.distinct;
    complete = λ n less.
        elim (split n k less) [
          | inl a ↦ tried.complete n a
          | inr e ↦
              let P : Path → Type 0 = λ p. HasPath (paths_of rs) p in
              subst P (path_is ∙ ap (λ m. path_of program domain bounds (tuple_of (ranges_of domain) m)) (sym e)) has
        ];
    few = omega (arith, tried.few);
    short = tried.short;
  }

  -- the record's path was sought among the records, and isn't there
  pub add_tried : (seen : List Record) (p : Path) → seen ≡ rs → p ≡ r.events → (HasPath (paths_of seen) p → ⊥) → Tried program domain bounds (k + 1) (rs ++ r ∷ [])
  add_tried seen p a b none =
      add_new (λ h.
      let P : List Record → Type 0 = λ v. HasPath (paths_of v) p in
      let Q : Path → Type 0 = λ q. HasPath (paths_of rs) q in
      none (subst P (sym a) (subst Q (sym b) h)))

  -- and is there
  pub pass_tried : (seen : List Record) (p : Path) → seen ≡ rs → p ≡ r.events → HasPath (paths_of seen) p → Tried program domain bounds (k + 1) rs
  pass_tried seen p a b has =
      let P : List Record → Type 0 = λ v. HasPath (paths_of v) p in
      let Q : Path → Type 0 = λ q. HasPath (paths_of rs) q in
      add_old (subst Q b (subst P a has))

not_none : (rs : List Record) (p : Path) → HasPath (paths_of rs) p → rs ≢ []
not_none [] p h e = absurd h
not_none (r ∷ rs) p h e = cc

-- all tuples were tried
pub all_tried : (program : Program) (domain : List Part) (bounds : Bounds) (k size : ℕ) (rs : List Record) → Tried program domain bounds k rs → k ≡ size → size ≡ size_of (ranges_of domain) → 0 < size_of (ranges_of domain) → size_of (ranges_of domain) < 2 ^ 32
    → ((words : List ℕ) → InDomain domain words → IsTuple (ranges_of domain) words) → IsExplored program domain bounds rs
all_tried program domain bounds k size rs tried a b some few every =
    let lt : 0 < k = omega arith in
    record {
      some = not_none rs (path_of program domain bounds (tuple_of (ranges_of domain) 0)) (tried.complete 0 lt);
      stand = tried.stand;
      distinct = tried.distinct;
      complete = λ words within.
          let t : IsTuple (ranges_of domain) words = every words within in
          let less : t.number < k = omega (arith, t.less) in
          let P : List ℕ → Type 0 = λ w. HasPath (paths_of rs) (path_of program domain bounds w) in
          subst P t.same (tried.complete t.number less);
      few = omega (arith, tried.few);
      short = tried.short;
    }
