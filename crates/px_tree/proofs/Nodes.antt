-- The nodes that paths pass, and the sides that a record makes.
use Rattle.std.proofs.Common.{◌≡◌, ℕ, zero, suc, ◌+◌, ◌-◌, ◌<◌, ◌≤◌, ◌^◌, List, [], ◌∷◌, ◌++◌, length, take, drop, get_or, Bool, true, false, refl, sym, ap, ◌∙◌, arith, map, max, add-one, append-nil, nat_lt}
use Rattle.std.specs.Prelude.{◌&&◌, ◌||◌, slice_get, if◌then◌else◌}
use Rattle.std.specs.List.{AllByRecursion, All, list_any}
use Rattle.std.proofs.lemmas.List.{map_push, drop_more, drop_all}
use Rattle.std.proofs.lemmas.List.Elements.{All-nil, All-append, All-map, All-same}
use Rattle.std.proofs.lemmas.List.Folds.{list_any_more}
use Rattle.std.proofs.lemmas.Bool.{lt-ltb, le-ltb, and_right, or_parts}
use Rattle.std.proofs.lemmas.Bool.Decides.{nat_tests}
use Rattle.px_program.specs.declared.record.Event.{Event}
use Rattle.px_program.specs.declared.record.Record.{Record}
use Rattle.px_program.specs.Paths.{Path, event_eq, path_eq, has_side}
use Rattle.px_tree.specs.declared.side.Side.{Side}
use Rattle.px_tree.specs.Passed.{passed_nodes, is_old, made_by, IsMade}
use Rattle.px_tree.specs.Tree.{paths_of, path_at, arity_of, passes, takes, below, side_at, new_sides, sides_of_path, is_taken}

-- ---- paths and events by number

pub path_at_is : (rs : List Record) (n : ℕ) (r : Record) → n < length rs → r ≡ get_or rs n r → r.events ≡ path_at (paths_of rs) n
path_at_is [] n r h is = absurd (omega arith)
path_at_is (x ∷ rs) zero r h is = ap (λ v. v.events) is
path_at_is (x ∷ rs) (suc n) r h is = path_at_is rs n r (omega arith) is

pub path_at_read : (paths : List Path) (n : ℕ) → get_or paths n [] ≡ path_at paths n
path_at_read [] n = refl
path_at_read (p ∷ ps) zero = refl
path_at_read (p ∷ ps) (suc n) = path_at_read ps n

pub path_short : (rs : List Record) (n : ℕ) → AllByRecursion (λ r. length r.events < 2 ^ 32) rs → n < length rs → length (path_at (paths_of rs) n) < 2 ^ 32
path_short [] n short h = absurd (omega arith)
path_short (x ∷ rs) zero short h = short.0
path_short (x ∷ rs) (suc n) short h = path_short rs n short.1 (omega arith)

pub length-paths_of : (rs : List Record) → length (paths_of rs) ≡ length rs
length-paths_of [] = refl
length-paths_of (x ∷ rs) = ap suc (length-paths_of rs)

pub arity_is : (path : Path) (depth : ℕ) (e : Event) → depth < length path → e ≡ get_or path depth e → e.site.arity ≡ arity_of (slice_get path depth)
arity_is [] depth e h is = absurd (omega arith)
arity_is (x ∷ path) zero e h is = ap (λ v. v.site.arity) is
arity_is (x ∷ path) (suc depth) e h is = arity_is path depth e (omega arith) is

-- ---- the nodes that a path passes

lt_suc : (a b : ℕ) → nat_lt (suc a) (suc b) ≡ nat_lt a b
lt_suc a b = grind (arith, nat_tests)

at_first : (t : Bool) (l m : ℕ) → (nat_lt 0 (suc l) && true) ≡ nat_lt 0 (if t then suc m else 1)
at_first true l m = grind (arith, nat_tests)
at_first false l m = grind (arith, nat_tests)

at_next : (t rest : Bool) (depth l m : ℕ) → (nat_lt depth l && rest) ≡ nat_lt depth m → (nat_lt (suc depth) (suc l) && (t && rest)) ≡ nat_lt (suc depth) (if t then suc m else 1)
at_next true rest depth l m h = rw (lt_suc depth l, lt_suc depth m) h
at_next false rest depth l m h = and_right (nat_lt (suc depth) (suc l)) false refl ∙ sym (le-ltb (suc depth) 1 (omega arith))

-- a path passes the first nodes of another
pub passes_first : (maker path : Path) (depth : ℕ) → depth < length maker → passes maker depth path ≡ nat_lt depth (passed_nodes maker path)
passes_first [] path depth h = absurd (omega arith)
passes_first (a ∷ maker) [] depth h = let e : nat_lt depth 0 ≡ false = le-ltb depth 0 (omega arith) in rw e refl
passes_first (a ∷ maker) (b ∷ path) zero h = at_first (event_eq b a) (length path) (passed_nodes maker path)
passes_first (a ∷ maker) (b ∷ path) (suc depth) h =
    at_next (event_eq b a) (path_eq (take depth path) (take depth maker)) depth (length path) (passed_nodes maker path)
    (passes_first maker path depth (omega arith))

one_le : (t : Bool) (m l : ℕ) → m ≤ l → (if t then suc m else 1) ≤ suc l
one_le true m l h = omega arith
one_le false m l h = omega arith

pub passed_within : (maker path : Path) → passed_nodes maker path ≤ length maker
passed_within [] path = omega arith
passed_within (a ∷ maker) [] = omega arith
passed_within (a ∷ maker) (b ∷ path) = one_le (event_eq b a) (passed_nodes maker path) (length maker) (passed_within maker path)

passed_none : (maker : Path) → passed_nodes maker [] ≡ 0
passed_none [] = refl
passed_none (a ∷ maker) = refl

pub passed_end : (maker path : Path) (depth : ℕ) → length path ≤ depth → passed_nodes (drop depth maker) (drop depth path) ≡ 0
passed_end maker path depth h = rw (drop_all depth path h) (passed_none (drop depth maker))

pub passed_more : (maker path : Path) (depth : ℕ) (a b : Event) → depth < length maker → depth < length path → a ≡ get_or maker depth a → b ≡ get_or path depth b
    → passed_nodes (drop depth maker) (drop depth path) ≡ (if event_eq b a then suc (passed_nodes (drop (depth + 1) maker) (drop (depth + 1) path)) else 1)
passed_more maker path depth a b h g is_a is_b =
    let e = ap (λ v. v ∷ drop (depth + 1) maker) (sym is_a) in
    let f = ap (λ v. v ∷ drop (depth + 1) path) (sym is_b) in
    rw (drop_more maker depth a h ∙ e, drop_more path depth b g ∙ f) refl

-- ---- the nodes that a record makes

lt-max : (d a b : ℕ) → (nat_lt d a || nat_lt d b) ≡ nat_lt d (max a b)
lt-max d a b = grind (arith, nat_tests)

-- one more earlier path
pub earlier_more : (rs : List Record) (maker path : Path) (n depth first passed : ℕ) → n < length rs → path ≡ path_at (paths_of rs) n → passed ≡ passed_nodes maker path → depth < length maker
    → list_any (passes maker depth) (take n (paths_of rs)) ≡ nat_lt depth first → list_any (passes maker depth) (take (n + 1) (paths_of rs)) ≡ nat_lt depth (max first passed)
earlier_more rs maker path n depth first passed h is count g before =
    list_any_more (passes maker depth) (paths_of rs) n [] (omega (arith, length-paths_of rs))
    ∙ ap (λ v. v || passes maker depth (get_or (paths_of rs) n [])) before
    ∙ ap (λ v. nat_lt depth first || passes maker depth v) (path_at_read (paths_of rs) n ∙ sym is)
    ∙ ap (λ v. nat_lt depth first || v) (passes_first maker path depth g ∙ ap (λ v. nat_lt depth v) (sym count))
    ∙ lt-max depth first passed

-- a node that an earlier path passes has no new sides
no_node : (paths : List Path) (n depth : ℕ) → is_old paths n depth ≡ true → new_sides paths n depth ≡ []
no_node paths n depth e = rw e refl

none_before : (paths : List Path) (n first : ℕ) → ((depth : ℕ) → depth < first → is_old paths n depth ≡ true) → sides_of_path paths n first ≡ []
none_before paths n zero old = refl
none_before paths n (suc first) old =
    ap (λ v. v ++ new_sides paths n first) (none_before paths n first (λ d h. old d (omega arith)))
    ∙ no_node paths n first (old first (omega arith))

-- a path adds nothing where earlier ones pass
pub made_none : (paths : List Path) (n first : ℕ) (out : List Side) → first ≤ length (path_at paths n)
    → ((depth : ℕ) → depth < length (path_at paths n) → is_old paths n depth ≡ nat_lt depth first)
    → out ≡ out ++ sides_of_path paths n first
made_none paths n first out h old =
    sym (ap (λ v. out ++ v) (none_before paths n first (λ d g. old d (omega arith) ∙ lt-ltb d first g)) ∙ append-nil out)

-- a node that no earlier path passes has all its sides
pub one_node : (paths : List Path) (n depth arity : ℕ) → is_old paths n depth ≡ false → arity ≡ arity_of (slice_get (path_at paths n) depth)
    → sides_of_path paths n (depth + 1) ≡ sides_of_path paths n depth ++ map (side_at n depth) (below arity)
one_node paths n depth arity e is =
    ap (λ d. sides_of_path paths n d) (add-one depth)
    ∙ ap (λ v. sides_of_path paths n depth ++ v) (rw (e, is) refl)

pub one_side : (n depth k : ℕ) → map (side_at n depth) (below (k + 1)) ≡ map (side_at n depth) (below k) ++ side_at n depth k ∷ []
one_side n depth k = ap (λ m. map (side_at n depth) (below m)) (add-one k) ∙ map_push (side_at n depth) (below k) k

-- ---- the sides that a record makes

new_made : (paths : List Path) (n depth : ℕ) (old : Bool) → is_old paths n depth ≡ old → depth < length (path_at paths n)
    → All (λ s. (s.maker ≡ n) × IsMade paths s) (if old then [] else map (side_at n depth) (below (arity_of (slice_get (path_at paths n) depth))))
new_made paths n depth true e h = All-nil (λ s. (s.maker ≡ n) × IsMade paths s)
new_made paths n depth false e h =
    All-map (λ s. (s.maker ≡ n) × IsMade paths s) (side_at n depth) (below (arity_of (slice_get (path_at paths n) depth))) (λ k d g. (refl, record { within = h; fresh = e }))

all_made : (paths : List Path) (n depth : ℕ) → depth ≤ length (path_at paths n) → All (λ s. (s.maker ≡ n) × IsMade paths s) (sides_of_path paths n depth)
all_made paths n zero h = All-nil (λ s. (s.maker ≡ n) × IsMade paths s)
all_made paths n (suc depth) h =
    All-append (λ s. (s.maker ≡ n) × IsMade paths s) (sides_of_path paths n depth) (new_sides paths n depth) (all_made paths n depth (omega arith))
    (new_made paths n depth (is_old paths n depth) refl (omega arith))

pub is_made : (paths : List Path) (n : ℕ) (made : List Side) (k : ℕ) (d : Side) → made ≡ made_by paths n → k < length made
    → ((get_or made k d).maker ≡ n) × IsMade paths (get_or made k d)
is_made paths n made k d is h =
    All-same (λ s. (s.maker ≡ n) × IsMade paths s) made (made_by paths n) is (all_made paths n (length (path_at paths n)) (omega arith)) k d h

-- ---- taken sides

-- who passes no node takes no side of it
none_takes : (maker : Path) (depth side : ℕ) (paths : List Path) → list_any (passes maker depth) paths ≡ false → list_any (takes maker depth side) paths ≡ false
none_takes maker depth side [] e = refl
none_takes maker depth side (p ∷ paths) e =
    let (now, later) = or_parts (passes maker depth p) (list_any (passes maker depth) paths) e in
    rw (now, none_takes maker depth side paths later) refl

any_split : (test : Path → Bool) (n : ℕ) (paths : List Path) → list_any test (take n paths) ≡ false → list_any test (drop n paths) ≡ list_any test paths
any_split test zero paths e = refl
any_split test (suc n) [] e = refl
any_split test (suc n) (p ∷ paths) e =
    let (now, later) = or_parts (test p) (list_any test (take n paths)) e in
    any_split test n paths later ∙ rw now refl

-- no record before the maker takes the side
pub taken_later : (paths : List Path) (side : Side) → IsMade paths side → list_any (takes (path_at paths side.maker) side.depth side.side) (drop side.maker paths) ≡ is_taken paths side
taken_later paths side made =
    any_split (takes (path_at paths side.maker) side.depth side.side) side.maker paths
    (none_takes (path_at paths side.maker) side.depth side.side (take side.maker paths) made.fresh)

any_rest : (test : Path → Bool) (paths : List Path) (n : ℕ) (path : Path) → n < length paths → path ≡ path_at paths n → list_any test (drop n paths) ≡ (test path || list_any test (drop (n + 1) paths))
any_rest test paths n path h is =
    ap (λ v. list_any test v) (drop_more paths n [] h)
    ∙ ap (λ v. test v || list_any test (drop (n + 1) paths)) (path_at_read paths n ∙ sym is)

-- the count for the path of a number
counted : (rs : List Record) (maker : Path) (n d : ℕ) → n < length rs → get_or (map (λ r. passed_nodes maker r.events) rs) n d ≡ passed_nodes maker (path_at (paths_of rs) n)
counted [] maker n d h = absurd (omega arith)
counted (x ∷ rs) maker zero d h = refl
counted (x ∷ rs) maker (suc n) d h = counted rs maker n d (omega arith)

-- the same among the counts from a number on
counted_from : (rs : List Record) (maker : Path) (from n d : ℕ) → from ≤ n → n < length rs
    → get_or (map (λ r. passed_nodes maker r.events) (drop from rs)) (n - from) d ≡ passed_nodes maker (path_at (paths_of rs) n)
counted_from rs maker zero n d g h = let e : n - 0 ≡ n = omega arith in rw e (counted rs maker n d h)
counted_from [] maker (suc from) n d g h = absurd (omega arith)
counted_from (x ∷ rs) maker (suc from) zero d g h = absurd (omega arith)
counted_from (x ∷ rs) maker (suc from) (suc n) d g h = let e : suc n - suc from ≡ n - from = omega arith in rw e (counted_from rs maker from n d (omega arith) (omega arith))

-- the side is taken by the path of a number, or by a later one
pub taken_rest : (rs : List Record) (maker path : Path) (passed : List ℕ) (from n depth side : ℕ) (now whole : Bool) → from ≤ n → n < length rs → path ≡ path_at (paths_of rs) n
    → passed ≡ map (λ r. passed_nodes maker r.events) (drop from rs) → depth < length maker
    → now ≡ (nat_lt depth (get_or passed (n - from) 0) && has_side (slice_get path depth) side) → list_any (takes maker depth side) (drop n (paths_of rs)) ≡ whole
    → whole ≡ (now || list_any (takes maker depth side) (drop (n + 1) (paths_of rs)))
taken_rest rs maker path passed from n depth side now whole g h is counts within now_is whole_is =
    let count = ap (λ v. get_or v (n - from) 0) counts ∙ counted_from rs maker from n 0 g h ∙ ap (λ v. passed_nodes maker v) (sym is) in
    sym whole_is
    ∙ any_rest (takes maker depth side) (paths_of rs) n path (omega (arith, length-paths_of rs)) is
    ∙ ap (λ v. (v && has_side (slice_get path depth) side) || list_any (takes maker depth side) (drop (n + 1) (paths_of rs)))
    (passes_first maker path depth within ∙ ap (λ v. nat_lt depth v) (sym count))
    ∙ ap (λ v. v || list_any (takes maker depth side) (drop (n + 1) (paths_of rs))) (sym now_is)
