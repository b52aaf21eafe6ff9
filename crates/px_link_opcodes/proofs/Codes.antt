-- The families of instructions, one behind the other.
use Rattle.std.proofs.Common.{◌≡◌, Option, Some, None, refl, ◌∙◌}
use Rattle.px_program.specs.declared.instr.Code.{Code}
use Rattle.px_link_opcodes.specs.Opcodes.{◌orelse◌}

orelse_more : (a b c : Option Code) → (a orelse b) orelse c ≡ a orelse (b orelse c)
orelse_more None b c = refl
orelse_more (Some x) b c = refl

-- what the last families give, where the first give nothing
pub late_told : (s t a k c d e f g h o late : Option Code) → None ≡ (s orelse t) orelse a orelse k orelse (c orelse d orelse e) → None ≡ f → late ≡ (g orelse h) orelse o
    → late ≡ s orelse t orelse a orelse k orelse c orelse d orelse e orelse f orelse g orelse h orelse o
late_told (Some x) t a k c d e f g h o late first flow last = absurd (cc)
late_told None (Some x) a k c d e f g h o late first flow last = absurd (cc)
late_told None None (Some x) k c d e f g h o late first flow last = absurd (cc)
late_told None None None (Some x) c d e f g h o late first flow last = absurd (cc)
late_told None None None None (Some x) d e f g h o late first flow last = absurd (cc)
late_told None None None None None (Some x) e f g h o late first flow last = absurd (cc)
late_told None None None None None None (Some x) f g h o late first flow last = absurd (cc)
late_told None None None None None None None (Some x) g h o late first flow last = absurd (cc)
late_told None None None None None None None None g h o late first flow last = last ∙ orelse_more g h o
