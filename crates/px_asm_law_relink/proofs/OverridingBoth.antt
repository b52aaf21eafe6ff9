-- A method that was reached overrides another in the one assembly exactly where it does in the other.
use Rattle.std.proofs.Common.{◌≡◌, ◌⊎◌, ℕ, true, false, List, map, Option, Some, None, refl, sym, ap, ◌∙◌, subst, inl, inr, ⊎_elim, arith}
use Rattle.std.specs.Prelude.{not, slice_get}
use Rattle.std.specs.Option.{is_some}
use Rattle.std.proofs.lemmas.Bool.{true≢false}
use Rattle.std.proofs.lemmas.Option.{same_Some}
use Rattle.px_link.specs.Layout.{Behind, Nearest, Nothing, OverridesAmong, number_among}
use Rattle.px_link.proofs.LinkedOperands.{same_sig}
use Rattle.px_link_methods.proofs.RowPlaces.{at_place_of, place_below, placed_at}
use Rattle.px_meta.proofs.Overridden.{one_overridden, overrides_may}
use Rattle.px_meta.specs.Members.{owner_of}
use Rattle.px_meta.specs.Overriding as said
use Rattle.px_meta.specs.Overriding.{Derives, MayOverride, Overrides}
use Rattle.px_meta.specs.Rows.{is_in, methods}
use Rattle.px_link_methods.specs.Codes.{place_of}
use Rattle.px_link_methods.specs.Methods.{place_of_type, return_place}
use Rattle.px_program.specs.declared.program.Slot.{Slot}
use Rattle.px_link_reach.specs.Overriders.{Directly, OverridesThrough, Through}
use Rattle.px_sig.specs.declared.sig.MethodSig.{MethodSig}
use Rattle.px_tables.specs.Metadata.{View}
use Rattle.px_asm_law_relink.specs.Again.{Again, first_numbers, method_for, type_for}
use Rattle.px_asm_described.specs.Describes.{IsImpl, method_row}
use Rattle.px_asm_law_relink.proofs.OverridingTypes.{one_sig}
use Rattle.px_asm_law_relink.proofs.Standing.{IsReachedRow, method_stands, methods_apart}
use Rattle.px_asm_law_relink.proofs.TypesAgain.{derives_again}

-- IN ONE ASSEMBLY

derives_on : (v : View) (type between base : ℕ) → Derives v type between → Derives v between base → Derives v type base
derives_on v type between base (said.Directly _ _ is) behind = said.Through type between base is behind
derives_on v type between base (said.Through _ next _ is rest) behind = said.Through type next base is (derives_on v next between base rest behind)

may_on : (v : View) (method between other : ℕ) → MayOverride v method between → MayOverride v between other → MayOverride v method other
may_on v method between other first second =
    let same : second.sig ≡ first.sig = same_Some second.sig first.sig (sym second.has_sig ∙ first.other_has_sig) in
    record {
      row = first.row;
      other_row = second.other_row;
      virtual = first.virtual;
      other_virtual = second.other_virtual;
      sig = first.sig;
      has_sig = first.has_sig;
      other_has_sig = second.other_has_sig ∙ ap (λ s. Some s) same;
      instance = first.instance;
      owned = first.owned;
      derives = derives_on v (owner_of v methods method) (owner_of v methods between) (owner_of v methods other) first.derives second.derives;
    }

-- a method may override what it overrides through others
pub through_may : (v : View) (method other : ℕ) → OverridesThrough v method other → MayOverride v method other
through_may v method other (Directly _ _ over) = overrides_may v method other over
through_may v method other (Through _ between _ over rest) = may_on v method between other (overrides_may v method between over) (through_may v between other rest)

pub through_on : (v : View) (method between other : ℕ) → OverridesThrough v method between → OverridesThrough v between other → OverridesThrough v method other
through_on v method between other (Directly _ _ over) behind = Through method between other over behind
through_on v method between other (Through _ next _ over rest) behind = Through method next other over (through_on v next between other rest behind)

-- the nearest of some rows is one of them
pub record IsAmong (v : View) (rows : List ℕ) (method other : ℕ) : Type 0 where
  pub through : OverridesThrough v method other
  pub there : is_in rows other ≡ true

pub nearest_among : (v : View) (rows : List ℕ) (method other : ℕ) (nearest : Option ℕ) → OverridesAmong v rows method nearest → nearest ≡ Some other → IsAmong v rows method other
nearest_among v rows method other nearest (Nothing _ none) is = absurd (cc)
nearest_among v rows method other nearest (Nearest _ found over there) is =
    let same : found ≡ other = cc in
    record { through = subst (OverridesThrough v method) same (Directly method found over); there = subst (λ r. is_in rows r ≡ true) same there }
nearest_among v rows method other nearest (Behind _ between _ over absent among) is =
    let rest = nearest_among v rows between other nearest among is in
    record { through = Through method between other over rest.through; there = rest.there }

-- FROM THE FIRST ASSEMBLY

module _ (a : Again) where
  may_again : (method other : ℕ) → IsReachedRow a method → IsReachedRow a other → MayOverride a.first method other → MayOverride a.v (method_for a method) (method_for a other)
  may_again method other reached other_reached may =
      let one = method_stands a method reached in
      let two = method_stands a other other_reached in
      let numbers = first_numbers a in
      let same : one.is_method.sig ≡ may.sig = same_sig a.first numbers method one.whole one.method may.sig one.is_method may.has_sig in
      let other_same : two.is_method.sig ≡ may.sig = same_sig a.first numbers other two.whole two.method may.sig two.is_method may.other_has_sig in
      let this : one.is_method.sig.has_this ≡ true = ap (λ (s : MethodSig). s.has_this) same ∙ may.instance in
      let other_this : two.is_method.sig.has_this ≡ true = ap (λ (s : MethodSig). s.has_this) other_same ∙ may.instance in
      let level : one.is_method.sig ≡ two.is_method.sig = same ∙ sym other_same in
      let static : one.method.is_static ≡ false = one.is_method.is_static ∙ ap not this in
      let one_spelling : one.is.sig ≡ two.is.sig =
      one_sig a one.method two.method one.is.sig two.is.sig (static ∙ sym (two.is_method.is_static ∙ ap not other_this))
      (one.is_method.params ∙ ap (λ (s : MethodSig). map (place_of_type a.first numbers.keys) s.params) level ∙ sym two.is_method.params)
      (one.is_method.ret ∙ ap (λ (s : MethodSig). return_place a.first numbers.keys s.ret) level ∙ sym two.is_method.ret)
      one.is.sig_is two.is.sig_is in
      record {
        row = one.there;
        other_row = two.there;
        virtual = one.slot_row.virtual_is ∙ one.is_slot.virtual_is ∙ may.virtual;
        other_virtual = two.slot_row.virtual_is ∙ two.is_slot.virtual_is ∙ may.other_virtual;
        sig = one.is.sig;
        has_sig = one.is.has_sig;
        other_has_sig = two.is.has_sig ∙ ap (λ s. Some s) (sym one_spelling);
        instance = one.is.sig_is.has_this ∙ ap not static;
        owned = λ none. let is = sym one.owner ∙ none in omega arith;
        derives = subst (λ type. Derives a.v type (owner_of a.v methods (method_for a other))) (sym one.owner)
            (subst (λ type. Derives a.v (type_for a (owner_of a.first methods method)) type) (sym two.owner)
            (derives_again a (owner_of a.first methods method) (owner_of a.first methods other) one.owner_met may.derives));
      }

  -- what the slot of a method says, a row says
  pub said_again : (method other : ℕ) → (reached : IsReachedRow a method) → IsReachedRow a other → (method_stands a method reached).slot.overridden ≡ Some (place_of a.reads.reached.rows other) → MayOverride a.first method other
      → Overrides a.v (method_for a method) (method_for a other)
  said_again method other reached other_reached is may =
      let rows = a.reads.reached.rows in
      let stands = method_stands a method reached in
      let says = a.describes.impls.says (place_of rows method) (place_of rows other) stands.slot stands.slot_at is in
      inl (record {
        row = says.row;
        said = record { there = says.is.there; body = says.is.body; declaration = says.is.declaration; may = may_again method other reached other_reached may };
        first = λ r o before said.
            let same : r ≡ says.row = a.describes.impls.once r says.row (method_for a method) o (method_for a other) (record { there = said.there; body = said.body; declaration = said.declaration }) says.is in
            omega arith;
      })

  -- the nearest method that was reached overrides another in the other assembly, or is it
  pub record LeadsOn (nearest : Option ℕ) (other : ℕ) : Type 0 where
    pub over : ℕ
    pub is : nearest ≡ Some over
    pub reached : IsReachedRow a over
    pub on : (over ≡ other) ⊎ OverridesThrough a.v (method_for a over) (method_for a other)

  -- so does the method whose nearest it is
  leads_from : (method other : ℕ) → IsReachedRow a method → ((nearest : Option ℕ) → OverridesAmong a.first a.reads.reached.rows method nearest → LeadsOn nearest other)
      → OverridesThrough a.v (method_for a method) (method_for a other)
  leads_from method other reached leads =
      let rows = a.reads.reached.rows in
      let slot = (method_stands a method reached).is_slot in
      let lead = leads slot.nearest slot.among in
      let may = through_may a.first method lead.over (nearest_among a.first rows method lead.over slot.nearest slot.among lead.is).through in
      let over = said_again method lead.over reached lead.reached (slot.overridden_is ∙ ap (number_among rows) lead.is) may in
      ⊎_elim
      (λ same. subst (λ m. OverridesThrough a.v (method_for a method) (method_for a m)) same (Directly (method_for a method) (method_for a lead.over) over))
      (λ on. Through (method_for a method) (method_for a lead.over) (method_for a other) over on)
      lead.on

  leads_at_once : (method other : ℕ) (nearest : Option ℕ) → IsReachedRow a other → Overrides a.first method other → OverridesAmong a.first a.reads.reached.rows method nearest → LeadsOn nearest other
  leads_at_once method other nearest reached over (Nothing _ none) = absurd (none other over)
  leads_at_once method other nearest reached over (Nearest _ found is there) =
      record { over = found; is = refl; reached = there; on = inl (one_overridden a.first method found other is over) }
  leads_at_once method other nearest reached over (Behind _ between _ is absent among) =
      absurd (true≢false (sym (subst (λ r. is_in a.reads.reached.rows r ≡ true) (one_overridden a.first method other between over is) reached) ∙ absent))

  leads_behind : (method between other : ℕ) (nearest : Option ℕ) → Overrides a.first method between
      → ((nearest : Option ℕ) → OverridesAmong a.first a.reads.reached.rows between nearest → LeadsOn nearest other) → OverridesAmong a.first a.reads.reached.rows method nearest → LeadsOn nearest other
  leads_behind method between other nearest over leads (Nothing _ none) = absurd (none between over)
  leads_behind method between other nearest over leads (Nearest _ found is there) =
      let same : between ≡ found = one_overridden a.first method between found over is in
      record { over = found; is = refl; reached = there; on = inr (leads_from found other there (λ n among. leads n (subst (λ m. OverridesAmong a.first a.reads.reached.rows m n) (sym same) among))) }
  leads_behind method between other nearest over leads (Behind _ found _ is absent among) =
      leads nearest (subst (λ m. OverridesAmong a.first a.reads.reached.rows m nearest) (one_overridden a.first method found between is over) among)

  pub leads_on : (method other : ℕ) (nearest : Option ℕ) → IsReachedRow a other → OverridesThrough a.first method other → OverridesAmong a.first a.reads.reached.rows method nearest → LeadsOn nearest other
  leads_on method other nearest reached (Directly _ _ over) among = leads_at_once method other nearest reached over among
  leads_on method other nearest reached (Through _ between _ over rest) among = leads_behind method between other nearest over (λ n is. leads_on between other n reached rest is) among

  pub there_too : (method other : ℕ) → IsReachedRow a method → IsReachedRow a other → OverridesThrough a.first method other → OverridesThrough a.v (method_for a method) (method_for a other)
  there_too method other reached other_reached through = leads_from method other reached (λ nearest among. leads_on method other nearest other_reached through among)

  -- FROM THE OTHER ASSEMBLY

  -- a method of the other assembly stands for one that is overridden in the first
  pub record ComesFrom (method other : ℕ) : Type 0 where
    pub over : ℕ
    pub reached : IsReachedRow a over
    pub is : other ≡ method_for a over
    pub through : OverridesThrough a.first method over

  by_nearest : (method other over : ℕ) (nearest : Option ℕ) → OverridesAmong a.first a.reads.reached.rows method nearest → number_among a.reads.reached.rows nearest ≡ Some over → other ≡ method_row a.p over → ComesFrom method other
  by_nearest method other over None among number is = absurd (cc)
  by_nearest method other over (Some row) among number is =
      let found = nearest_among a.first a.reads.reached.rows method row (Some row) among refl in
      let same : over ≡ place_of a.reads.reached.rows row = same_Some over (place_of a.reads.reached.rows row) (sym number) in
      record { over = row; reached = found.there; is = is ∙ ap (method_row a.p) same; through = found.through }

  -- a row of MethodImpl says what a slot says
  by_impl : (method other row : ℕ) → IsReachedRow a method → IsImpl a.v row (method_for a method) other → ComesFrom method other
  by_impl method other row reached is =
      let rows = a.reads.reached.rows in
      let numbers = a.p.layout.methods in
      let number = place_of rows method in
      let stands = method_stands a method reached in
      let said = a.describes.impls.said row (method_for a method) other is in
      let level : place_of numbers number ≡ place_of numbers said.number = let e = said.method_is in omega arith in
      let there = a.reads.layout.methods.all number (ap is_some (at_place_of rows method reached)) in
      let within = place_below numbers number there in
      let placed = at_place_of numbers number there in
      let same : said.number ≡ number =
      same_Some said.number number (sym (placed_at numbers said.number (omega arith)) ∙ ap (slice_get numbers) (sym level) ∙ placed) in
      let slot : said.slot ≡ stands.slot = same_Some said.slot stands.slot (sym said.at ∙ ap (slice_get a.p.layout.slots) same ∙ stands.slot_at) in
      by_nearest method other said.over stands.is_slot.nearest stands.is_slot.among (sym stands.is_slot.overridden_is ∙ ap (λ (s : Slot). s.overridden) (sym slot) ∙ said.overrides) said.other_is

  -- no method overrides by its name
  by_no_name : (method other : ℕ) → IsReachedRow a method → said.IsByName a.v (method_for a method) other → ⊥
  by_no_name method other reached named =
      let stands = method_stands a method reached in
      let virtual = (overrides_may a.v (method_for a method) other (inr named)).virtual in
      true≢false (sym (stands.slot_row.new_slot (sym stands.slot_row.virtual_is ∙ virtual)) ∙ named.old_slot)

  comes_at_once : (method other : ℕ) → IsReachedRow a method → Overrides a.v (method_for a method) other → ComesFrom method other
  comes_at_once method other reached (inl first) = by_impl method other first.row reached (record { there = first.said.there; body = first.said.body; declaration = first.said.declaration })
  comes_at_once method other reached (inr named) = absurd (by_no_name method other reached named)

  comes_on : (method other row : ℕ) → OverridesThrough a.v row other → IsReachedRow a method → row ≡ method_for a method → ComesFrom method other
  comes_on method other row (Directly _ _ over) reached is = comes_at_once method other reached (subst (λ r. Overrides a.v r other) is over)
  comes_on method other row (Through _ between _ over rest) reached is =
      let first = comes_at_once method between reached (subst (λ r. Overrides a.v r between) is over) in
      let later = comes_on first.over other between rest first.reached first.is in
      record { over = later.over; reached = later.reached; is = later.is; through = through_on a.first method first.over later.over first.through later.through }

  pub comes_from : (method other : ℕ) → IsReachedRow a method → OverridesThrough a.v (method_for a method) other → ComesFrom method other
  comes_from method other reached through = comes_on method other (method_for a method) through reached refl

  pub here_too : (method other : ℕ) → IsReachedRow a method → IsReachedRow a other → OverridesThrough a.v (method_for a method) (method_for a other) → OverridesThrough a.first method other
  here_too method other reached other_reached through =
      let from = comes_from method (method_for a other) reached through in
      subst (OverridesThrough a.first method) (sym (methods_apart a other from.over other_reached from.reached from.is)) from.through
