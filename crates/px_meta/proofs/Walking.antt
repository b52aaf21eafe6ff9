-- A walk of a chain meets each type once, and comes to what is known.
use Rattle.std.proofs.Common.{◌≡◌, ◌≢◌, ◌⊎◌, ℕ, ◌-◌, ◌<◌, ◌≤◌, Bool, true, false, List, [], ◌∷◌, ◌++◌, length, get_or, set, Option, Some, None, refl, sym, ap, subst, inl, inr, ⊎_elim, arith, get_or-set_other, get_or-set_same, length-set}
use Rattle.std.specs.Prelude.{count_by, if◌then◌else◌, is_none, slice_index_or}
use Rattle.std.proofs.lemmas.Bool.{cases_eq}
use Rattle.std.proofs.lemmas.Grind.{common_steps}
use Rattle.std.proofs.lemmas.List.Sums.{sum_by-set}
use Rattle.px_meta.specs.Chains.{Ends, GoesOn, HasEnd, IsChain}
use Rattle.px_meta.specs.Walks.{AreKnown, AreNexts, AreWalked, IsKnown, IsVerdict, next_in, walk_of}

-- two chains end both, or neither does
pub record SameEnd (next : ℕ → Option ℕ) (row other : ℕ) : Type 0 where
  pub there : HasEnd next row → HasEnd next other
  pub back : HasEnd next other → HasEnd next row

behind_of : (next : ℕ → Option ℕ) (row behind : ℕ) (chain : List ℕ) → IsChain next row chain → next row ≡ Some behind → HasEnd next behind
behind_of next row behind [] (Ends _ none) is = absurd (cc)
behind_of next row behind (b ∷ rest) (GoesOn _ _ _ on chain) is = let same : b ≡ behind = cc in subst (λ n. HasEnd next n) same (record { behind = rest; chain = chain })

-- a chain and what is behind its first type
pub step : (next : ℕ → Option ℕ) (row behind : ℕ) → next row ≡ Some behind → SameEnd next row behind
step next row behind is = record {
  there = λ e. behind_of next row behind e.behind e.chain is;
  back = λ e. record { behind = behind ∷ e.behind; chain = GoesOn row behind e.behind is e.chain };
}

pub joined : (next : ℕ → Option ℕ) (a b c : ℕ) → SameEnd next a b → SameEnd next b c → SameEnd next a c
joined next a b c ab bc = record { there = λ e. bc.there (ab.there e); back = λ e. ab.back (bc.back e) }

pub verdict_along : (nexts : List (Option ℕ)) (row other : ℕ) (outcome : Bool) → SameEnd (next_in nexts) row other → IsVerdict nexts other outcome → IsVerdict nexts row outcome
verdict_along nexts row other true same has = same.back has
verdict_along nexts row other false same has_none = λ e. has_none (same.there e)

-- a type that was met in this walk: the walk goes on to one that was met too, or to where it is
pub record IsOnPath (nexts : List (Option ℕ)) (ends : List Bool) (met : List (Option ℕ)) (at row walk : ℕ) : Type 0 where
  pub now : walk ≡ length ends
  pub same : SameEnd (next_in nexts) row at
  pub behind : ℕ
  pub behind_is : next_in nexts row ≡ Some behind
  pub some : 1 ≤ behind
  pub on : (behind ≡ at) ⊎ (walk_of met behind ≡ Some (length ends))

-- a walk is at a type
pub record IsWalking (nexts : List (Option ℕ)) (ends : List Bool) (from at : ℕ) (met : List (Option ℕ)) : Type 0 where
  pub size : length met ≡ length nexts
  pub some : 1 ≤ at
  pub few : at ≤ length nexts
  pub same : SameEnd (next_in nexts) from at
  pub known : (row walk : ℕ) → 1 ≤ row → walk_of met row ≡ Some walk → IsKnown nexts ends row walk ⊎ IsOnPath nexts ends met at row walk

pub begun : (nexts : List (Option ℕ)) (ends : List Bool) (from : ℕ) (met : List (Option ℕ)) → 1 ≤ from → from ≤ length nexts → AreKnown nexts ends met → IsWalking nexts ends from from met
begun nexts ends from met some few known = record {
  size = known.size;
  some = some;
  few = few;
  same = record { there = λ e. e; back = λ e. e };
  known = λ row walk first is. inl (known.known row walk first is);
}

-- what stands at a type behind a write at another, or at the same
same_place : (met : List (Option ℕ)) (at row : ℕ) (x : Option ℕ) → 1 ≤ at → at ≤ length met → row ≡ at → walk_of (set met (at - 1) x) row ≡ x
same_place met at row x some few e = subst (λ n. walk_of (set met (at - 1) x) n ≡ x) (sym e) (get_or-set_same met (at - 1) x None (omega arith))

other_place : (met : List (Option ℕ)) (at row : ℕ) (x : Option ℕ) → 1 ≤ at → 1 ≤ row → row ≢ at → walk_of (set met (at - 1) x) row ≡ walk_of met row
other_place met at row x some first ne = get_or-set_other met (at - 1) (row - 1) x None (λ e. ne (omega arith))

-- no chain of a type that was met in this walk ends, where the walk comes to one of them
never : (nexts : List (Option ℕ)) (ends : List Bool) (from at : ℕ) (met : List (Option ℕ)) → IsWalking nexts ends from at met → walk_of met at ≡ Some (length ends)
    → (row : ℕ) (chain : List ℕ) → 1 ≤ row → walk_of met row ≡ Some (length ends) → IsChain (next_in nexts) row chain → ⊥
never nexts ends from at met w here row [] first is (Ends _ none) =
    ⊎_elim
    (λ known. omega (arith, known.past))
    (λ path. let e = path.behind_is in cc)
    (w.known row (length ends) first is)
never nexts ends from at met w here row (b ∷ rest) first is (GoesOn _ _ _ on chain) =
    ⊎_elim
    (λ known. omega (arith, known.past))
    (λ path.
    let e = path.behind_is in
    let same : path.behind ≡ b = cc in
    let some : 1 ≤ b = subst (λ n. 1 ≤ n) same path.some in
    let again : walk_of met b ≡ Some (length ends) = ⊎_elim
    (λ is_at. subst (λ n. walk_of met n ≡ Some (length ends)) (let f : at ≡ b = cc in f) here)
    (λ met_too. subst (λ n. walk_of met n ≡ Some (length ends)) same met_too)
    path.on in
    never nexts ends from at met w here b rest some again chain)
    (w.known row (length ends) first is)

-- what comes out where the walk comes to a type that was met
pub met_again : (nexts : List (Option ℕ)) (ends : List Bool) (from at walk : ℕ) (met : List (Option ℕ)) → IsWalking nexts ends from at met → walk_of met at ≡ Some walk → IsVerdict nexts at (slice_index_or ends walk false)
met_again nexts ends from at walk met w here =
    ⊎_elim
    (λ known. known.verdict)
    (λ path.
    let past : slice_index_or ends walk false ≡ false = grind (arith, common_steps, path.now) in
    subst (λ b. IsVerdict nexts at b) (sym past)
    (λ e. never nexts ends from at met w (subst (λ n. walk_of met at ≡ Some n) path.now here) at e.behind w.some (subst (λ n. walk_of met at ≡ Some n) path.now here) e.chain))
    (w.known at walk w.some here)

-- a walk that is over
pub over : (nexts : List (Option ℕ)) (ends : List Bool) (from at : ℕ) (outcome : Bool) (met : List (Option ℕ)) → IsWalking nexts ends from at met → IsVerdict nexts at outcome → AreWalked nexts ends outcome met
over nexts ends from at outcome met w verdict = record {
  size = w.size;
  known = λ row walk first is.
      ⊎_elim (λ known. inl known) (λ path. inr (path.now, verdict_along nexts row at outcome path.same verdict)) (w.known row walk first is);
}

pub over_from : (nexts : List (Option ℕ)) (ends : List Bool) (from at : ℕ) (outcome : Bool) (met : List (Option ℕ)) → IsWalking nexts ends from at met → IsVerdict nexts at outcome → IsVerdict nexts from outcome
over_from nexts ends from at outcome met w verdict = verdict_along nexts from at outcome w.same verdict

-- the walk notes a type, and goes on to the one behind it
pub gone_on : (nexts : List (Option ℕ)) (ends : List Bool) (from at behind : ℕ) (met : List (Option ℕ)) → AreNexts nexts → IsWalking nexts ends from at met → next_in nexts at ≡ Some behind
    → IsWalking nexts ends from behind (set met (at - 1) (Some (length ends)))
gone_on nexts ends from at behind met nice w is = record {
  size = let e = length-set met (at - 1) (Some (length ends)) in omega (arith, w.size);
  some = (nice at behind is).0;
  few = (nice at behind is).1;
  same = joined (next_in nexts) from at behind w.same (step (next_in nexts) at behind is);
  known = λ row walk first stands.
      ⊎_elim
      (λ e. inr (record {
        now = let same = same_place met at row (Some (length ends)) w.some (omega (arith, w.size, w.few)) e in let f : Some walk ≡ Some (length ends) = cc in cc;
        same = subst (λ n. SameEnd (next_in nexts) n behind) (sym e) (step (next_in nexts) at behind is);
        behind = behind;
        behind_is = subst (λ n. next_in nexts n ≡ Some behind) (sym e) is;
        some = (nice at behind is).0;
        on = inl refl;
      }))
      (λ ne.
      let before : walk_of met row ≡ Some walk = let same = other_place met at row (Some (length ends)) w.some first ne in cc in
      ⊎_elim
      (λ known. inl known)
      (λ path. inr (record {
        now = path.now;
        same = joined (next_in nexts) row at behind path.same (step (next_in nexts) at behind is);
        behind = path.behind;
        behind_is = path.behind_is;
        some = path.some;
        on = inr (⊎_elim
            (λ e. same_place met at path.behind (Some (length ends)) w.some (omega (arith, w.size, w.few)) e)
            (λ other. let same = other_place met at path.behind (Some (length ends)) w.some path.some other in
            ⊎_elim (λ e. absurd (other e)) (λ noted. let f = noted in cc) path.on)
            (cases_eq path.behind at));
      }))
      (w.known row walk first before))
      (cases_eq row at);
}

-- the walk notes a type that is the last of its chain
pub ended : (nexts : List (Option ℕ)) (ends : List Bool) (from at : ℕ) (met : List (Option ℕ)) → IsWalking nexts ends from at met → next_in nexts at ≡ None
    → AreWalked nexts ends true (set met (at - 1) (Some (length ends)))
ended nexts ends from at met w none = record {
  size = let e = length-set met (at - 1) (Some (length ends)) in omega (arith, w.size);
  known = λ row walk first stands.
      ⊎_elim
      (λ e. inr (
        (let same = same_place met at row (Some (length ends)) w.some (omega (arith, w.size, w.few)) e in let f : Some walk ≡ Some (length ends) = cc in cc),
        subst (λ n. HasEnd (next_in nexts) n) (sym e) (record { behind = []; chain = Ends at none }),
      ))
      (λ ne.
      let before : walk_of met row ≡ Some walk = let same = other_place met at row (Some (length ends)) w.some first ne in cc in
      ⊎_elim
      (λ known. inl known)
      (λ path. inr (path.now, path.same.back (record { behind = []; chain = Ends at none })))
      (w.known row walk first before))
      (cases_eq row at);
}

pub ended_from : (nexts : List (Option ℕ)) (ends : List Bool) (from at : ℕ) (met : List (Option ℕ)) → IsWalking nexts ends from at met → next_in nexts at ≡ None → HasEnd (next_in nexts) from
ended_from nexts ends from at met w none = w.same.back (record { behind = []; chain = Ends at none })

-- fewer types are left to be met
pub fewer_left : (met : List (Option ℕ)) (at walk : ℕ) → at < length met → get_or met at None ≡ None → count_by is_none (set met at (Some walk)) < count_by is_none met
fewer_left met at walk few new =
    let e = sum_by-set (λ o. if is_none o then 1 else 0) met at (Some walk) None few in
    let one : ◌≡◌ {A = ℕ} (if is_none (get_or met at None) then 1 else 0) 1 = ap (λ o. if is_none o then 1 else 0) new in
    omega (arith, e, one)

-- one more walk is over
pub one_more_known : (nexts : List (Option ℕ)) (ends : List Bool) (outcome : Bool) (met : List (Option ℕ)) → AreWalked nexts ends outcome met → AreKnown nexts (ends ++ outcome ∷ []) met
one_more_known nexts ends outcome met w = record {
  size = w.size;
  known = λ row walk first is.
      ⊎_elim
      (λ known. record {
        past = let p = known.past in grind (arith, common_steps);
        verdict = let same : slice_index_or (ends ++ outcome ∷ []) walk false ≡ slice_index_or ends walk false = let p = known.past in grind (arith, common_steps) in
            subst (λ b. IsVerdict nexts row b) (sym same) known.verdict;
      })
      (λ now. record {
        past = let p = now.0 in grind (arith, common_steps);
        verdict = let same : slice_index_or (ends ++ outcome ∷ []) walk false ≡ outcome = let p = now.0 in grind (arith, common_steps) in
            subst (λ b. IsVerdict nexts row b) (sym same) now.1;
      })
      (w.known row walk first is);
}
