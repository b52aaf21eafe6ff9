-- The program of the methods that are reached, or the fault of the first body that isn't read.
use Rattle.std.proofs.Common.{◌≡◌, ℕ, ◌^◌, ◌<◌, true, List, ◌∷◌, Option, Result, Ok, Err, length, refl, sym, ap, ◌∙◌, subst}
use Rattle.std.specs.Prelude.{IfOk}
use Rattle.px_link.specs.declared.fault.LinkFault.{LinkFault}
use Rattle.std.specs.List.{AllByRecursion}
use Rattle.px_link_methods.specs.Methods.{AreMethods, met_by_all}
use Rattle.px_pe.specs.Image as pe
use Rattle.px_program.specs.Arguments.{AreGiven, arguments_of}
use Rattle.px_program.specs.Formed.{IsWellFormed}
use Rattle.px_program.specs.declared.program.Layout.{Layout}
use Rattle.px_program.specs.declared.program.Method.{Method}
use Rattle.px_program.specs.declared.program.Program.{Program}
use Rattle.px_program.specs.declared.program.TypeInfo.{TypeInfo}
use Rattle.px_link_reach.specs.Met as reach
use Rattle.px_link_reach.specs.Met.{IsOwned, IsReached}
use Rattle.px_link_reach.specs.Overriders.{AreLists}
use Rattle.px_link_reach.specs.declared.body.Whole.{Whole}
use Rattle.px_link_reach.specs.declared.methods.ReachFault.{ReachFault}
use Rattle.px_link_reach.specs.declared.methods.ReachFault.TheVariants as reach_faults
use Rattle.px_link_reach.specs.declared.methods.Reached.{Reached}
use Rattle.px_tables.specs.Metadata.{View}
use Rattle.px_link_types.proofs.Closed.{grows}
use Rattle.px_link_types.specs.Numbers.{Numbers, is_numbered, library_keys}
use Rattle.px_link_types.specs.declared.key.Key.{Key}
use Rattle.px_link.specs.Layout.{IsLayout}
use Rattle.px_link.specs.Link.{Blames, maker_number, rows_of}
use Rattle.px_link.specs.Overrides.{in_order}
use Rattle.px_link.specs.Parts.{HasTypes, IsEntryOf, IsLinked, fault_of}
use Rattle.px_link.specs.declared.entry.Entry.{Entry}
use Rattle.px_link.proofs.Assembly.{given, well_formed}

pub linked_by : (v : View) (image : pe.View) (name : List ℕ) (entry : Entry) (lists : List (List ℕ)) (reached : Reached) (keys : List Key) (types : List TypeInfo) (methods : List Method) (maker : Option ℕ) (layout : Layout)
    → IsEntryOf v name entry → AreLists v lists → IsReached v image lists (entry.method ∷ rows_of entry.maker) reached → Numbers v library_keys (met_by_all v reached.rows reached.bodies) keys
    → HasTypes v (record { keys = keys; rows = reached.rows }) lists (in_order reached.rows reached.virtual_targets) types → AreMethods v (record { keys = keys; rows = reached.rows }) reached.bodies methods
    → maker ≡ maker_number reached.rows entry.maker → IsLayout v (record { keys = keys; rows = reached.rows }) layout → length reached.rows < 2 ^ 32 → AllByRecursion (IsOwned v) reached.rows
    → IsLinked v image name (record { types = types; methods = methods; entry = 0; maker = maker; layout = layout })
linked_by v image name entry lists reached keys types methods maker layout is are_lists is_reached numbers typed made maker_is laid few owned = record {
  reads = record {
    method = entry.method;
    sig = is.sig;
    entry = is.is;
    lists = lists;
    overriding = are_lists;
    reached = reached;
    is_reached = subst (λ m. IsReached v image lists (entry.method ∷ rows_of m) reached) is.maker is_reached;
    keys = keys;
    numbers = numbers;
    types = typed.linked;
    methods = made;
    entry_is = refl;
    maker_is = maker_is ∙ ap (maker_number reached.rows) is.maker;
    layout = laid;
  };
  formed = typed.formed;
  few = few;
  owned = owned;
}

as_read : (reached : Reached) (rows : List ℕ) (bodies : List Whole) (targets : List ℕ) → rows ≡ reached.rows → bodies ≡ reached.bodies → targets ≡ reached.virtual_targets → reached ≡ record { rows = rows; bodies = bodies; virtual_targets = targets }
as_read reached rows bodies targets r b t =
    let with_rows : List ℕ → Reached = λ rs. record { rows = rs; bodies = reached.bodies; virtual_targets = reached.virtual_targets } in
    let with_bodies : List Whole → Reached = λ bs. record { rows = rows; bodies = bs; virtual_targets = reached.virtual_targets } in
    let with_targets : List ℕ → Reached = λ ts. record { rows = rows; bodies = bodies; virtual_targets = ts } in
    ap with_rows (sym r) ∙ ap with_bodies (sym b) ∙ ap with_targets (sym t)

-- the same by what was lent of the rows, the bodies and the virtual targets
pub linked_from : (v : View) (image : pe.View) (name : List ℕ) (entry : Entry) (lists : List (List ℕ)) (reached : Reached) (rows : List ℕ) (bodies : List Whole) (targets : List ℕ) (keys : List Key) (types : List TypeInfo) (methods : List Method) (maker : Option ℕ) (layout : Layout)
    → rows ≡ reached.rows → bodies ≡ reached.bodies → targets ≡ reached.virtual_targets
    → IsEntryOf v name entry → AreLists v lists → IsReached v image lists (entry.method ∷ rows_of entry.maker) reached → Numbers v library_keys (met_by_all v rows bodies) keys
    → HasTypes v (record { keys = keys; rows = rows }) lists (in_order rows targets) types → AreMethods v (record { keys = keys; rows = rows }) bodies methods
    → maker ≡ maker_number rows entry.maker → IsLayout v (record { keys = keys; rows = rows }) layout → length reached.rows < 2 ^ 32 → AllByRecursion (IsOwned v) reached.rows
    → IsLinked v image name (record { types = types; methods = methods; entry = 0; maker = maker; layout = layout })
linked_from v image name entry lists reached rows bodies targets keys types methods maker layout r b t is are_lists is_reached numbers typed made maker_is laid few owned =
    let lent : Reached = record { rows = rows; bodies = bodies; virtual_targets = targets } in
    linked_by v image name entry lists lent keys types methods maker layout is are_lists
    (subst (λ x. IsReached v image lists (entry.method ∷ rows_of entry.maker) x) (as_read reached rows bodies targets r b t) is_reached) numbers typed made maker_is laid
    (subst (λ rs. length rs < 2 ^ 32) (sym r) few) (subst (AllByRecursion (IsOwned v)) (sym r) owned)

pub met_numbered : (v : View) (from met keys : List Key) → Numbers v from met keys → AllByRecursion (λ key. is_numbered keys key ≡ true) met
met_numbered v from met keys numbers = (grows numbers).met_numbered

pub bad_body : (v : View) (image : pe.View) (name : List ℕ) (entry : Entry) (lists : List (List ℕ)) (fault : ReachFault) → IsEntryOf v name entry → AreLists v lists
    → reach.Blames v image lists (entry.method ∷ rows_of entry.maker) fault → Blames v image name (fault_of fault)
bad_body v image name entry lists reach_faults.Memory is are refused = tt
bad_body v image name entry lists (reach_faults.Bad kind at number) is are refused = record {
  method = entry.method;
  sig = is.sig;
  entry = is.is;
  lists = lists;
  overriding = are;
  refused = subst (λ m. reach.IsFirstRefused v image lists (entry.method ∷ rows_of m) number (kind, at)) is.maker refused;
}

-- a linked program is well formed, and its arguments are what can be given
pub linked_formed : (v : View) (image : pe.View) (name : List ℕ) (program : Program) → IsLinked v image name program → IsWellFormed program
linked_formed v image name program linked = well_formed v image name program linked.reads linked.formed linked.few linked.owned

pub linked_given : (v : View) (image : pe.View) (name : List ℕ) (program : Program) → IsLinked v image name program → AreGiven program.types (arguments_of program)
linked_given v image name program linked = given v image name program linked.reads

-- what follows of a program that is linked
pub of_linked : (Q : Program → Type 0) (v : View) (image : pe.View) (name : List ℕ) (outcome : Result Program LinkFault) → ((program : Program) → IsLinked v image name program → Q program) → IfOk outcome (IsLinked v image name) → IfOk outcome Q
of_linked Q v image name (Ok program) goes is = goes program is
of_linked Q v image name (Err fault) goes is = tt
