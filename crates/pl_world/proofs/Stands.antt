-- Who stands at a port, and of how many hosts a switch knows when it heard them last.
use Rattle.std.proofs.Common.{[], ap, eq-eqb, length, List, Option, refl, suc, true, ℕ, ◌==◌, ◌∷◌, ◌≡◌}
use Rattle.std.proofs.lemmas.Bool.{and_from}
use Rattle.pl_world.specs.declared.attachment.AttachmentPoint.{AttachmentPoint}
use Rattle.pl_world.specs.Changes.{stands_at}
use Rattle.pl_world.specs.OtherActs.{heard_after_tick}

pub stands_there : (s port : ℕ) (attachment : AttachmentPoint) → attachment.edge.0 ≡ s → attachment.port ≡ port → stands_at s port attachment ≡ true
stands_there s port attachment edge at = and_from (attachment.edge.0 == s) (attachment.port == port) (eq-eqb attachment.edge.0 s edge) (eq-eqb attachment.port port at)

pub ticked_heard : (s : ℕ) (attachments : List AttachmentPoint) (heard : List (Option ℕ)) → length (heard_after_tick s attachments heard) ≡ length heard
ticked_heard s [] heard = refl
ticked_heard s (attachment ∷ attachments) [] = refl
ticked_heard s (attachment ∷ attachments) (ticks ∷ heard) = ap suc (ticked_heard s attachments heard)
