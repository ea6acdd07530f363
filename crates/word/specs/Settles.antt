-- What it is for a promise to settle an outcome: "it is shown that no second outcome fits".
use Rattle.std.specs.Prelude.{◌≡◌}

-- two outcomes that both keep the promise are one
abbrev pub Settles : {A : Type 0} → (A → Type 0) → Type 0
Settles {A} P = (r s : A) → P r → P s → r ≡ s
