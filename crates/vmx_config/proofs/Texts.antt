-- Bytes that are a table of TOML, and others.
use Rattle.std.proofs.Common.{◌≡◌, ℕ, List, Bool, true, false, refl, Some, None, cond}
use Rattle.std.specs.Prelude.{Err}
use Rattle.std.specs.Str.{is_utf8, IsUtf8}
use Rattle.std.proofs.lemmas.Str.{IsUtf8-from_is_utf8, is_utf8-from_IsUtf8}
use Rattle.toml.specs.Data.{Members}
use Rattle.toml.specs.Parse.{parse_document}
use Rattle.vmx_config_rows.specs.declared.fault.ConfigFault.TheVariants.{Text}
use Rattle.vmx_config.specs.Whole.{settings_at, top_at, top_or_text}

-- bytes that are a table say what it says
pub settings_table : (bytes : List ℕ) (ms : Members) → IsUtf8 bytes → parse_document bytes ≡ Some ms → settings_at bytes ≡ top_at ms
unfolding settings_at
settings_table bytes ms u p = rw (is_utf8-from_IsUtf8 bytes u, p) refl

-- other bytes are no text
pub settings_text : (bytes : List ℕ) → (IsUtf8 bytes → parse_document bytes ≡ None) → settings_at bytes ≡ Err Text
unfolding settings_at
settings_text bytes h = pick (is_utf8 bytes) (λ e. h (IsUtf8-from_is_utf8 bytes e))
  where
    pick : (b : Bool) → (b ≡ true → parse_document bytes ≡ None) → top_or_text (cond b (parse_document bytes) None) ≡ Err Text
    pick true h = rw (h refl) refl
    pick false h = refl
