-- What a method meets has numbers, part by part.
use Rattle.std.proofs.Common.{◌≡◌, ℕ, true, List, ◌∷◌, ◌++◌, [], Some, map, sym, ap, ◌∙◌, subst}
use Rattle.std.specs.Prelude.{not}
use Rattle.std.specs.List.{AllZip, flat_map}
use Rattle.px_meta.specs.Members.{IsMethod}
use Rattle.px_meta.specs.declared.meta.MetaMethod.{MetaMethod}
use Rattle.px_program.specs.declared.program.Method.{Method}
use Rattle.px_link_reach.specs.declared.body.Whole.{Whole}
use Rattle.px_tables.specs.Metadata.{View}
use Rattle.px_link_types.proofs.Closed.{each-back, each-front}
use Rattle.px_link_types.specs.Keys.{alone, place_key}
use Rattle.px_link_types.specs.Making.{AreNumberedIn}
use Rattle.px_link_types.specs.Numbers.{is_numbered, number_of}
use Rattle.px_link_types.specs.declared.key.Key.{Key}
use Rattle.px_link_types.specs.declared.key.Leaf.TheVariants.{Defined}
use Rattle.px_link_methods.specs.Codes.{IsInstr, Numbering}
use Rattle.px_link_methods.specs.Methods.{IsMethod as MadeMethod, IsMethodName, keys_of_body, keys_of_clause, keys_of_instr, keys_of_sig, linked_clause, met_by, place_of_type, return_place, sig_at}
use Rattle.px_link_methods.specs.Slots.{forms_of}

-- all that a method meets has numbers
pub record HasNumbers (v : View) (keys : List Key) (m : MetaMethod) (whole : Whole) : Type 0 where
  pub owner : is_numbered keys (alone (Defined m.owner)) ≡ true
  pub params : AreNumberedIn keys (map (place_key v) m.sig.params)
  pub ret : is_numbered keys (place_key v m.sig.ret) ≡ true
  pub locals : AreNumberedIn keys (map (place_key v) whole.locals)
  pub code : AreNumberedIn keys (flat_map (keys_of_instr v) whole.body.code)
  pub clauses : AreNumberedIn keys (flat_map (keys_of_clause v) whole.body.clauses)

pub has_numbers : (v : View) (keys : List Key) (row : ℕ) (m : MetaMethod) (whole : Whole) → IsMethod v row m → AreNumberedIn keys (met_by v (row, whole)) → HasNumbers v keys m whole
has_numbers v keys row m whole is numbered =
    let P = λ (key : Key). is_numbered keys key ≡ true in
    let locals = map (place_key v) whole.locals in
    let instrs = flat_map (keys_of_instr v) whole.body.code in
    let clauses = flat_map (keys_of_clause v) whole.body.clauses in
    let body = each-back P (keys_of_sig v (sig_at v row)) (keys_of_body v whole) numbered.1 in
    let sig : AreNumberedIn keys (keys_of_sig v (Some m.sig)) = subst (λ s. AreNumberedIn keys (keys_of_sig v s)) is.sig (each-front P (keys_of_sig v (sig_at v row)) (keys_of_body v whole) numbered.1) in
    let behind = each-back P locals (instrs ++ clauses) body in
    record {
      owner = subst (λ o. is_numbered keys (alone (Defined o)) ≡ true) (sym is.owner) numbered.0;
      params = each-front P (map (place_key v) m.sig.params) (place_key v m.sig.ret ∷ []) sig;
      ret = (each-back P (map (place_key v) m.sig.params) (place_key v m.sig.ret ∷ []) sig).0;
      locals = each-front P locals (instrs ++ clauses) body;
      code = each-front P instrs clauses behind;
      clauses = each-back P instrs clauses behind;
    }

-- a method whose parts are made by what the metadata say of it
pub made : (w v : View) → w ≡ v → (n : Numbering) (row : ℕ) (m : MetaMethod) (whole : Whole) (method : Method) → IsMethod w row m → IsMethodName w row method.name → method.owner ≡ number_of n.keys (alone (Defined m.owner))
    → method.is_static ≡ not m.sig.has_this → method.params ≡ map (place_of_type w n.keys) m.sig.params → method.ret ≡ return_place w n.keys m.sig.ret
    → method.locals ≡ map (place_of_type w n.keys) whole.locals → method.max_stack ≡ whole.body.max_stack → AllZip (IsInstr v n (forms_of w m.sig whole.locals)) whole.body.code method.code
    → method.clauses ≡ map (linked_clause w n.keys) whole.body.clauses → MadeMethod v n row whole method
made w v e n row m whole method is name owner static params ret locals stack code clauses =
    subst (λ u. AllZip (IsInstr u n (forms_of w m.sig whole.locals)) whole.body.code method.code → MadeMethod u n row whole method) e
    (λ own. record {
      sig = m.sig;
      has_sig = is.sig;
      name = name;
      owner = owner ∙ ap (λ o. number_of n.keys (alone (Defined o))) is.owner;
      is_static = static;
      params = params;
      ret = ret;
      locals = locals;
      max_stack = stack;
      code = own;
      clauses = clauses;
    })
    code
