-- Functions of several values that are the same.
use Rattle.std.proofs.Common.{◌≡◌}

-- a function of two values that are the same
pub ap2 : {X Y Z : Type 0} (f : X → Y → Z) {a b : X} {u v : Y} → a ≡ b → u ≡ v → f a u ≡ f b v
ap2 f p q = cc

-- a function of five
pub ap5 : {V W X Y Z R : Type 0} (f : V → W → X → Y → Z → R) {a b : V} {c d : W} {k l : X} {m n : Y}
    {u v : Z} → a ≡ b → c ≡ d → k ≡ l → m ≡ n → u ≡ v → f a c k m u ≡ f b d l n v
ap5 f p q r s t = cc
