-- Worked values of signed division through signed numbers. Assumes nothing.
use mathlib.Core.Path.{◌≡◌, refl}
use lib.IntN.{pos, negsuc}
use lib.Signed.{quot_z, rem_z}
use Rattle.divide.specs.TwosComplement.{to_int, of_int}

read : (to_int 8 127 ≡ pos 127) × (to_int 8 128 ≡ negsuc 127) × (to_int 8 255 ≡ negsuc 0) × (to_int 1 1 ≡ negsuc 0)
read = (refl, refl, refl, refl)

put_back : (of_int 8 (negsuc 0) ≡ 255) × (of_int 8 (pos 128) ≡ 128) × (of_int 8 (negsuc 256) ≡ 255) × (of_int 8 (pos 257) ≡ 1)
put_back = (refl, refl, refl, refl)

-- the least number by minus one, and -7 by 2
divided : (of_int 8 (quot_z (to_int 8 128) (to_int 8 255)) ≡ 128) × (of_int 8 (quot_z (to_int 8 249) (to_int 8 2)) ≡ 253)
    × (of_int 8 (rem_z (to_int 8 249) (to_int 8 2)) ≡ 255)
divided = (refl, refl, refl)
