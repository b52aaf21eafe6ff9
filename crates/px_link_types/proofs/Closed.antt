-- What numbering comes to: what had a number keeps it, and the own types of what gets one have numbers too.
use Rattle.std.proofs.Common.{◌≡◌, List, [], ◌∷◌, ◌++◌, true, false, append_assoc, append-nil, sym, ◌∙◌, subst}
use Rattle.std.specs.List.{AllByRecursion}
use Rattle.px_program.proofs.Types.{each-append}
use Rattle.px_tables.specs.Metadata.{View}
use Rattle.px_link_types.specs.declared.key.Key.{Key}
use Rattle.px_link_types.specs.Making.{AreNumberedIn}
use Rattle.px_link_types.specs.Numbers.{Ends, Meets, Numbers, Passes, is_numbered, own_types}
use Rattle.px_link_types.proofs.Keyed.{is_numbered-front, is_numbered-there, not_numbered-front}

-- the keys behind those of before, which had no numbers, and whose own types all have numbers
pub record Grows (v : View) (from met all : List Key) : Type 0 where
  pub more : List Key
  pub all_is : all ≡ from ++ more
  pub met_numbered : AreNumberedIn all met
  pub new : AllByRecursion (λ key. is_numbered from key ≡ false) more
  pub own : AllByRecursion (λ key. AreNumberedIn all (own_types v key)) more

pub each-front : {X : Type 0} (P : X → Type 0) (xs ys : List X) → AllByRecursion P (xs ++ ys) → AllByRecursion P xs
each-front P [] ys each = tt
each-front P (x ∷ xs) ys each = (each.0, each-front P xs ys each.1)

pub each-back : {X : Type 0} (P : X → Type 0) (xs ys : List X) → AllByRecursion P (xs ++ ys) → AllByRecursion P ys
each-back P [] ys each = each
each-back P (x ∷ xs) ys each = each-back P xs ys each.1

new_before : (keys more new : List Key) → AllByRecursion (λ key. is_numbered (keys ++ more) key ≡ false) new → AllByRecursion (λ key. is_numbered keys key ≡ false) new
new_before keys more [] none = tt
new_before keys more (key ∷ new) none = (not_numbered-front keys more key none.0, new_before keys more new none.1)

passes : (v : View) (keys : List Key) (key : Key) (rest all : List Key) → is_numbered keys key ≡ true → Grows v keys rest all → Grows v keys (key ∷ rest) all
passes v keys key rest all has grows = record {
  more = grows.more;
  all_is = grows.all_is;
  met_numbered = (subst (λ ks. is_numbered ks key ≡ true) (sym grows.all_is) (is_numbered-front keys grows.more key has), grows.met_numbered);
  new = grows.new;
  own = grows.own;
}

meets : (v : View) (keys : List Key) (key : Key) (rest all : List Key) → is_numbered keys key ≡ false → Grows v (keys ++ key ∷ []) (own_types v key ++ rest) all → Grows v keys (key ∷ rest) all
meets v keys key rest all none grows =
    let is : all ≡ keys ++ key ∷ grows.more = grows.all_is ∙ append_assoc keys (key ∷ []) grows.more in
    record {
      more = key ∷ grows.more;
      all_is = is;
      met_numbered = (subst (λ ks. is_numbered ks key ≡ true) (sym is) (is_numbered-there keys key grows.more), each-back (λ k. is_numbered all k ≡ true) (own_types v key) rest grows.met_numbered);
      new = (none, new_before keys (key ∷ []) grows.more grows.new);
      own = (each-front (λ k. is_numbered all k ≡ true) (own_types v key) rest grows.met_numbered, grows.own);
    }

pub grows : {v : View} {from met all : List Key} → Numbers v from met all → Grows v from met all
grows (Ends keys) = record { more = []; all_is = sym (append-nil keys); met_numbered = tt; new = tt; own = tt }
grows {v} (Passes keys key rest all has numbers) = passes v keys key rest all has (grows numbers)
grows {v} (Meets keys key rest all none numbers) = meets v keys key rest all none (grows numbers)

-- what goes from keys to their own types holds of all keys, where it holds of those that are met
pub each_numbered : {v : View} {from met all : List Key} (P : Key → Type 0) → ((key : Key) → P key → AllByRecursion P (own_types v key)) → Numbers v from met all → AllByRecursion P from → AllByRecursion P met → AllByRecursion P all
each_numbered P goes (Ends keys) begun met = begun
each_numbered P goes (Passes keys key rest all has numbers) begun met = each_numbered P goes numbers begun met.1
each_numbered {v} P goes (Meets keys key rest all none numbers) begun met =
    each_numbered P goes numbers (each-append P keys (key ∷ []) begun (met.0, tt)) (each-append P (own_types v key) rest (goes key met.0) met.1)
