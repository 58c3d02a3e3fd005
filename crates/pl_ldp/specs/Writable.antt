-- What can be told by a control frame.
use Rattle.std.specs.Prelude.{◌<◌, ◌^◌, IfSome, IsTrue}
use Rattle.pl_frame.specs.declared.address.SwitchId.{SwitchId}
use Rattle.pl_layouts.specs.declared.control.Ldm.{Ldm}
use Rattle.pl_layouts.specs.declared.control.Proposal.{Proposal}
use Rattle.pl_layouts.specs.declared.control.Vote.{Vote}
use Rattle.pl_layouts.specs.declared.control.Control.{Control}
use Rattle.pl_layouts.specs.declared.control.Control.TheVariants as control
use Rattle.pl_layouts.specs.Control.{is_sound}

-- an id stands in six bytes and is not 0
abbrev pub IsWritableId : SwitchId → Type 0
IsWritableId id = (0 < id.0) × (id.0 < 2 ^ 48)

-- each field stands in its bytes, and a known one has not the code of an unknown one
pub record FitsLdm (m : Ldm) : Type 0 where
  pub position : IfSome m.place.position (λ p. p < 255)
  pub pod : IfSome m.place.pod (λ p. p < 65535)
  pub echo : IfSome m.echo IsWritableId

pub record FitsProposal (p : Proposal) : Type 0 where
  pub attempt : p.attempt < 2 ^ 32
  pub position : p.position < 256

pub record FitsVote (v : Vote) : Type 0 where
  pub attempt : v.attempt < 2 ^ 32
  pub position : v.position < 256
  pub holder : IfSome v.holder IsWritableId

abbrev pub ControlFits : Control → Type 0
ControlFits (control.Ldm id m) = IsWritableId id × FitsLdm m
ControlFits (control.Proposal id p) = IsWritableId id × FitsProposal p
ControlFits (control.Vote id v) = IsWritableId id × FitsVote v

-- a value that reading can give: no field contradicts another, and each fits
pub record IsWritableControl (c : Control) : Type 0 where
  pub sound : IsTrue (is_sound c)
  pub fits : ControlFits c
