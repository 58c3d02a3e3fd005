-- Addresses in use.
use Rattle.std.proofs.Common.{◌≡◌, true, None, refl}
use Rattle.std.proofs.lemmas.Bool.{false≢true}
use Rattle.pl_node.specs.AddressUses.{is_held, is_in_use, standing_trap}
use Rattle.pl_node.specs.declared.address_use.AddressUse.{AddressUse}
use Rattle.pl_node.specs.declared.address_use.AddressUse.TheVariants.{InUse, Trapped, Resting, Free}

-- no trap stands for one
pub in_use_has_no_trap : (held : AddressUse) → is_in_use held ≡ true → standing_trap held ≡ None
in_use_has_no_trap (InUse idle) used = refl
in_use_has_no_trap (Trapped trap age) used = absurd (false≢true used)
in_use_has_no_trap (Resting number) used = refl
in_use_has_no_trap Free used = refl

pub in_use_is_held : (held : AddressUse) → is_in_use held ≡ true → is_held held ≡ true
in_use_is_held (InUse idle) used = refl
in_use_is_held (Trapped trap age) used = refl
in_use_is_held (Resting number) used = refl
in_use_is_held Free used = absurd (false≢true used)
