-- What is kept while methods are met.
use Rattle.std.proofs.Common.{◌≡◌, ℕ, ◌<◌, ◌^◌, List, [], ◌∷◌, length, true, Result, Ok, Err, sym, subst}
use Rattle.std.specs.Prelude.{OnOk}
use Rattle.std.specs.List.{AllByRecursion}
use Rattle.px_meta.specs.Rows.{is_in}
use Rattle.px_tables.specs.Metadata.{View}
use Rattle.px_link_reach.specs.Finding.{AreFollowed, AreIn, AreKept}
use Rattle.px_link_reach.specs.Met.{IsOwned, add_new, with_overriders}
use Rattle.px_link_reach.specs.Overriders.{overriders_in}
use Rattle.px_link_reach.proofs.Sets.{added_each, added_none, all_added, each_in, each_kept}

-- what follows a method stays with more methods
followed_more : (lists : List (List ℕ)) (rows xs targets : List ℕ) → AreFollowed lists rows targets → AreFollowed lists (add_new rows xs) targets
followed_more lists rows xs [] all = tt
followed_more lists rows xs (target ∷ targets) all = (each_kept rows xs (with_overriders lists target) all.0, followed_more lists rows xs targets all.1)

-- some methods are met
pub kept_more : (v : View) (lists : List (List ℕ)) (rows targets after xs : List ℕ) → AreKept v lists rows targets → AllByRecursion (IsOwned v) xs → after ≡ add_new rows xs → length after < 2 ^ 32 → AreKept v lists after targets
kept_more v lists rows targets after xs kept owned e few = record {
  owned = subst (AllByRecursion (IsOwned v)) (sym e) (added_each (IsOwned v) rows xs kept.owned owned);
  few = few;
  followed = subst (λ l. AreFollowed lists l targets) (sym e) (followed_more lists rows xs targets kept.followed);
}

-- a method that `callvirt` names is met, and what overrides it
pub kept_virtual : (v : View) (lists : List (List ℕ)) (rows targets after after_targets : List ℕ) (target : ℕ) → AreKept v lists rows targets → IsOwned v target → AllByRecursion (IsOwned v) (overriders_in lists target)
    → after ≡ add_new rows (with_overriders lists target) → after_targets ≡ add_new targets (target ∷ []) → length after < 2 ^ 32 → AreKept v lists after after_targets
kept_virtual v lists rows targets after after_targets target kept owned others e f few =
    let more = kept_more v lists rows targets after (with_overriders lists target) kept (owned, others) e few in
    let new : AreIn after (with_overriders lists target) = subst (λ l. AreIn l (with_overriders lists target)) (sym e) (all_added rows (with_overriders lists target)) in
    record {
      owned = more.owned;
      few = few;
      followed = subst (AreFollowed lists after) (sym f) (added_each (λ t. AreIn after (with_overriders lists t)) targets (target ∷ []) more.followed (new, tt));
    }

-- a method that `callvirt` named before is there, and so is what overrides it
pub named_before : (lists : List (List ℕ)) (rows targets : List ℕ) (target : ℕ) → AreFollowed lists rows targets → is_in targets target ≡ true → rows ≡ add_new rows (with_overriders lists target)
named_before lists rows targets target followed is =
    sym (added_none rows (with_overriders lists target) (each_in (λ t. AreIn rows (with_overriders lists t)) targets target followed is))

-- the methods to start with
pub kept_first : (v : View) (lists : List (List ℕ)) (starts rows targets : List ℕ) → AllByRecursion (IsOwned v) starts → rows ≡ add_new [] starts → targets ≡ [] → length rows < 2 ^ 32 → AreKept v lists rows targets
kept_first v lists starts rows targets owned e f few = record {
  owned = subst (AllByRecursion (IsOwned v)) (sym e) (added_each (IsOwned v) [] starts tt owned);
  few = few;
  followed = subst (AreFollowed lists rows) (sym f) tt;
}

-- two clauses of a result
pub both_ok : {T E P Q R : Type 0} (r : Result T E) → OnOk r P → OnOk r Q → (P → Q → R) → OnOk r R
both_ok (Ok x) p q both = both p q
both_ok (Err e) p q both = tt
