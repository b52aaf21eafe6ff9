-- What is kept of what was read at places of the heaps.
use Rattle.std.specs.Prelude.{◌≡◌, ℕ, Some, MatchOption}
use Rattle.std.specs.BTreeMap.{BTreeMap, get}
use Rattle.std.specs.Ordering.{nat_cmp}
use Rattle.px_blobs.specs.Items.{IsStringAt}
use Rattle.px_tables.specs.Metadata.{View}
use Rattle.px_meta.specs.Members.{field_sig_at, method_sig_at, type_sig_at}
use Rattle.px_meta.specs.Rows.{IsReadable}
use Rattle.px_meta.specs.declared.known.Known.{Known}

-- what is kept of a place is what stands there
abbrev pub Knows : {X : Type 0} → (ℕ → X → Type 0) → BTreeMap ℕ X → Type 0
Knows {X} Is m = (at : ℕ) (x : X) → get nat_cmp m at ≡ Some x → Is at x

pub record IsKnown (v : View) (known : Known) : Type 0 where
  pub texts : Knows (λ at text. MatchOption text (IsReadable v at → ⊥) (λ t. IsStringAt v.strings at t.now)) known.texts
  pub methods : Knows (λ at sig. sig ≡ method_sig_at v at) known.methods
  pub fields : Knows (λ at sig. sig ≡ field_sig_at v at) known.fields
  pub types : Knows (λ at sig. sig ≡ type_sig_at v at) known.types
