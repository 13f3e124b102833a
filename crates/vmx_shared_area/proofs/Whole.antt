-- Bytes of the whole length are the image.
use Rattle.std.proofs.Common.{◌≡◌, ℕ, List, length, drop}
use Rattle.std.proofs.lemmas.List.{take_at}
use Rattle.vmx_shared_area.specs.Image.{with_bytes}
use Rattle.vmx_shared_area.specs.declared.offsets.TheConstants.{IMAGE_SIZE}

pub with_bytes_whole : (image w : List ℕ) → length w ≡ IMAGE_SIZE → with_bytes image w ≡ w
with_bytes_whole image w h = take_at w (drop (length w) image) IMAGE_SIZE h
