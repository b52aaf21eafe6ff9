-- A side of the tree that no record takes leads nowhere, since every words of the domain have a record's path.
use Rattle.std.proofs.Common.{◌≡◌, ℕ, zero, suc, ◌<◌, ◌≤◌, List, [], ◌∷◌, ◌++◌, length, take, map, Bool, true, false, refl, sym, ap, ◌∙◌, subst, arith, inl, inr, if◌then◌else◌}
use Rattle.std.specs.List.{AllByRecursion, list_any}
use Rattle.std.specs.Prelude.{not, filter, slice_get}
use Rattle.std.proofs.lemmas.Bool.{lt-ltb}
use Rattle.px_domain.specs.declared.domain.Part.{Part}
use Rattle.px_interp.specs.Run.{path_of, NoWay}
use Rattle.px_program.specs.declared.program.Program.{Program}
use Rattle.px_program.specs.declared.record.Bounds.{Bounds}
use Rattle.px_program.specs.declared.record.Record.{Record}
use Rattle.px_program.specs.Paths.{Path, Takes, has_side, path_eq}
use Rattle.px_program.proofs.Apart.{path_eq-refl}
use Rattle.px_session.specs.Explored.{IsExplored}
use Rattle.px_tests.specs.declared.findings.Findings.{Findings}
use Rattle.px_tests.specs.Sound.{Sound}
use Rattle.px_tree.specs.declared.side.Side.{Side}
use Rattle.px_tree.specs.Tree.{HasPath, arity_of, below, is_taken, is_untaken, new_sides, node_of, passes, path_at, paths_of, side_at, sides_below, sides_of, sides_of_path, takes, untaken_of}

-- the side stands within the path of the record that made it
abbrev StandsWithin : List Path → Side → Type 0
StandsWithin paths s = s.depth < length (path_at paths s.maker)

all_both : {X : Type 0} (P : X → Type 0) (xs ys : List X) → AllByRecursion P xs → AllByRecursion P ys → AllByRecursion P (xs ++ ys)
all_both P [] ys a b = b
all_both P (x ∷ xs) ys a b = (a.0, all_both P xs ys a.1 b)

sides_within : (paths : List Path) (n depth : ℕ) (ks : List ℕ) → depth < length (path_at paths n) → AllByRecursion (StandsWithin paths) (map (side_at n depth) ks)
sides_within paths n depth [] h = tt
sides_within paths n depth (k ∷ ks) h = (h, sides_within paths n depth ks h)

new_within : (paths : List Path) (n depth : ℕ) → depth < length (path_at paths n) → AllByRecursion (StandsWithin paths) (new_sides paths n depth)
new_within paths n depth h = by (list_any (passes (path_at paths n) depth) (take n paths))
  where
    by : (b : Bool) → AllByRecursion (StandsWithin paths) (if b then [] else map (side_at n depth) (below (arity_of (slice_get (path_at paths n) depth))))
    by true = tt
    by false = sides_within paths n depth (below (arity_of (slice_get (path_at paths n) depth))) h

path_within : (paths : List Path) (n depth : ℕ) → depth ≤ length (path_at paths n) → AllByRecursion (StandsWithin paths) (sides_of_path paths n depth)
path_within paths n zero h = tt
path_within paths n (suc depth) h = all_both (StandsWithin paths) (sides_of_path paths n depth) (new_sides paths n depth) (path_within paths n depth (omega arith)) (new_within paths n depth (omega arith))

below_within : (paths : List Path) (n : ℕ) → AllByRecursion (StandsWithin paths) (sides_below paths n)
below_within paths zero = tt
below_within paths (suc n) = all_both (StandsWithin paths) (sides_below paths n) (sides_of_path paths n (length (path_at paths n))) (below_within paths n) (path_within paths n (length (path_at paths n)) (omega arith))

all_within : (paths : List Path) → AllByRecursion (StandsWithin paths) (sides_of paths)
unfolding sides_of
all_within paths = below_within paths (length paths)

length-take-less : (d : ℕ) (p : Path) → d ≤ length p → length (take d p) ≡ d
length-take-less zero p h = refl
length-take-less (suc d) [] h = absurd (omega arith)
length-take-less (suc d) (x ∷ p) h = omega (arith, length-take-less d p (omega arith))

there : (xs : Path) (d side : ℕ) → has_side (slice_get xs d) side ≡ true → d < length xs
there [] d side h = cc
there (x ∷ xs) zero side h = omega arith
there (x ∷ xs) (suc d) side h = omega (arith, there xs d side h)

takes_so : (path other : Path) (depth side : ℕ) → depth ≤ length other → Takes path (take depth other) side → takes other depth side path ≡ true
takes_so path other depth side within t =
    let n : length (take depth other) ≡ depth = length-take-less depth other within in
    let begins : take depth path ≡ take depth other = ap (λ m. take m path) (sym n) ∙ t.begins in
    let goes : has_side (slice_get path depth) side ≡ true = ap (λ m. has_side (slice_get path m) side) (sym n) ∙ t.goes in
    let same : path_eq (take depth path) (take depth other) ≡ true = ap (λ p. path_eq p (take depth other)) begins ∙ path_eq-refl (take depth other) in
    rw (lt-ltb depth (length path) (there path depth side goes), same, goes) refl

any_has : (paths : List Path) (p : Path) (f : Path → Bool) → HasPath paths p → f p ≡ true → list_any f paths ≡ true
any_has [] p f h e = absurd h
any_has (q ∷ paths) p f h e = elim h [
  | inl s ↦ let g : f q ≡ true = ap f s ∙ e in rw g refl
  | inr t ↦ let r : list_any f paths ≡ true = any_has paths p f t e in grind arith
]

module _ (program : Program) (domain : List Part) (bounds : Bounds) (records : List Record) (found : IsExplored program domain bounds records) where
  abbrev Nowhere : Side → Type 0
  Nowhere s = NoWay program domain bounds (node_of (paths_of records) s) s.side

  nowhere : (s : Side) → StandsWithin (paths_of records) s → is_untaken (paths_of records) s ≡ true → Nowhere s
  nowhere s within untaken words inside takes_it =
      let any : is_taken (paths_of records) s ≡ true =
      any_has (paths_of records) (path_of program domain bounds words) (takes (path_at (paths_of records) s.maker) s.depth s.side) (found.complete words inside)
      (takes_so (path_of program domain bounds words) (path_at (paths_of records) s.maker) s.depth s.side (omega arith) takes_it) in
      let never : not true ≡ true = ap not (sym any) ∙ untaken in
      cc

  each : (sides : List Side) → AllByRecursion (StandsWithin (paths_of records)) sides → AllByRecursion Nowhere (filter (is_untaken (paths_of records)) sides)
  each [] within = tt
  each (s ∷ sides) within = at (is_untaken (paths_of records) s) refl (each sides within.1)
    where
      at : (b : Bool) → is_untaken (paths_of records) s ≡ b → AllByRecursion Nowhere (filter (is_untaken (paths_of records)) sides) → AllByRecursion Nowhere (filter (is_untaken (paths_of records)) (s ∷ sides))
      at true e rest = rw e (nowhere s within.0 e, rest)
      at false e rest = rw e rest

  pub all_nowhere : AllByRecursion Nowhere (untaken_of (paths_of records))
  all_nowhere = each (sides_of (paths_of records)) (all_within (paths_of records))

-- the findings of an exploration are sound
pub sound : (program : Program) (f : Findings) (records : List Record) (untaken : List Side) → IsExplored program f.domain f.bounds records → f.records ≡ records → untaken ≡ untaken_of (paths_of records)
    → f.refuted ≡ length untaken → Sound program f
sound program f records untaken found same is counted =
    let P : List Record → Type 0 = λ rs. IsExplored program f.domain f.bounds rs in
    let g : IsExplored program f.domain f.bounds f.records = subst P (sym same) found in
    record {
      some = g.some;
      stand = g.stand;
      distinct = g.distinct;
      complete = g.complete;
      nowhere = all_nowhere program f.domain f.bounds f.records g;
      counted = counted ∙ ap length (is ∙ ap (λ rs. untaken_of (paths_of rs)) (sym same));
    }
