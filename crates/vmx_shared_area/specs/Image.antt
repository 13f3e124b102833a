-- The image as it is lent.
use Rattle.std.specs.Prelude.{ℕ, List, ◌++◌, length, take, drop}
use Rattle.vmx_shared_area.specs.declared.offsets.TheConstants.{IMAGE_SIZE}

-- the bytes of an image over which others were written; where these have the same length, they are the image
abbrev pub with_bytes : List ℕ → List ℕ → List ℕ
with_bytes image written = take IMAGE_SIZE (written ++ drop (length written) image)
