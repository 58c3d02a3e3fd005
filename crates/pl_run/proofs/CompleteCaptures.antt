-- Of the captures of the hosts one is the first that is refused or too long.
use Rattle.std.proofs.Common.{◌≡◌, ℕ, zero, suc, ◌+◌, ◌-◌, ◌<◌, ◌≤◌, ◌⊎◌, List, [], ◌∷◌, length, take, slice_get, Some, Err, sym, ap, ◌∙◌, subst, inl, inr, arith}
use Rattle.std.proofs.lemmas.Bool.{cases_lt}
use Rattle.std.proofs.lemmas.List.{take-take}
use Rattle.std.proofs.lemmas.List.Elements.{All-head, All-tail, All-take}
use Rattle.std.proofs.lemmas.List.Sums.{sum_by-cons}
use Rattle.std.proofs.lemmas.Option.{none-some, same_Some}
use Rattle.pl_shelf.specs.Held.{Held, IsLonger}
use Rattle.pl_wiring.specs.declared.host.Host.{Host}
use Rattle.pl_inputs.specs.declared.fault.CaptureFault.{CaptureFault}
use Rattle.pl_inputs.specs.Folders.{in_folder}
use Rattle.pl_inputs.specs.Inputs.{AreCaptures, IsCaptureFile, IsCaptureAt, all_bytes, captures_limit}
use Rattle.pl_inputs.specs.Readings.{reading_of}
use Rattle.pl_inputs.specs.Unread.{ComesTo, IsRefusedCapture, IsTooMuch}
use Rattle.pl_run.specs.Complete.{AreCapturesShown, IsCaptureShown}
use Rattle.pl_run.proofs.Complete.{not_longer, ok_err, one_capture, one_err, one_list}

-- the capture of a host is accepted behind these files, and together they are within this
record IsAccepted (held : List ℕ → Held) (folder : List ℕ) (host : Host) (files : List (List ℕ)) (total : ℕ) : Type 0 where
  file : List ℕ
  is : IsCaptureAt held folder host.capture file
  read : IsCaptureFile file
  within : all_bytes files + length file ≤ total

accepted : (held : List ℕ → Held) (folder : List ℕ) (hosts : List Host) (n : ℕ) (host : Host) (files before : List (List ℕ)) →
    AreCapturesShown held folder (take n hosts) → AreCaptures held folder hosts files → AreCaptures held folder (take n hosts) before →
    slice_get hosts n ≡ Some host → IsAccepted held folder host before (all_bytes files)
accepted held folder [] n host files before told are front stands = absurd (none-some host stands)
accepted held folder (h ∷ hosts) n host [] before told are front stands = absurd are
accepted held folder (h ∷ hosts) zero host (f ∷ files) [] told are front stands = record {
  file = f;
  is = subst (λ (x : Host). IsCaptureAt held folder x.capture f) (same_Some h host stands) are.0;
  read = are.1;
  within = let more = sum_by-cons length f files in omega arith;
}
accepted held folder (h ∷ hosts) zero host (f ∷ files) (g ∷ before) told are front stands = absurd front
accepted held folder (h ∷ hosts) (suc n) host (f ∷ files) [] told are front stands = absurd front
accepted held folder (h ∷ hosts) (suc n) host (f ∷ files) (g ∷ before) told are front stands =
    let first = All-head (λ h. IsCaptureShown held folder h.capture) h (take n hosts) told in
    let rest = All-tail (λ h. IsCaptureShown held folder h.capture) h (take n hosts) told in
    let then = accepted held folder hosts n host files before rest are.2 front.2 stands in
    let same : length f ≡ length g = ap (λ x. length x) (one_capture held folder h.capture first f g are.0 front.0) in
    let more = sum_by-cons length f files in
    let less = sum_by-cons length g before in
    let within = then.within in
    record { file = then.file; is = then.is; read = then.read; within = omega arith }

-- a capture that is refused, or with which all are longer than is allowed
abbrev pub IsRefusedAt : (List ℕ → Held) → List ℕ → Host → Type 0
IsRefusedAt held folder host = (file : List ℕ) × (e : CaptureFault) × IsCaptureAt held folder host.capture file × (reading_of file ≡ Err e)

abbrev pub IsLongAt : (List ℕ → Held) → List ℕ → Host → List (List ℕ) → Type 0
IsLongAt held folder host files =
    (name : List ℕ) × (host.capture ≡ Some name) × IsLonger (held (in_folder folder name)) (captures_limit - all_bytes files)

abbrev pub IsStop : (List ℕ → Held) → List ℕ → Host → List (List ℕ) → Type 0
IsStop held folder host files = IsRefusedAt held folder host ⊎ IsLongAt held folder host files

no_stop : (held : List ℕ → Held) (folder : List ℕ) (host : Host) (files : List (List ℕ)) (total : ℕ) → total ≤ captures_limit →
    IsCaptureShown held folder host.capture → IsAccepted held folder host files total → IsStop held folder host files → ⊥
no_stop held folder host files total limit told a (inl r) =
    let same : r.0 ≡ a.file = one_capture held folder host.capture told r.0 a.file r.2 a.is in
    ok_err (reading_of r.0) a.read.0 r.1 (ap reading_of same ∙ a.read.1) r.3
no_stop held folder host files total limit told a (inr l) =
    let within = a.within in
    not_longer held (in_folder folder l.0) (subst (λ c. IsCaptureShown held folder c) l.1 told) a.file (captures_limit - all_bytes files)
    (subst (λ c. IsCaptureAt held folder c a.file) l.1 a.is) (omega arith) l.2

shown_at : (held : List ℕ → Held) (folder : List ℕ) (hosts : List Host) (n : ℕ) (host : Host) → AreCapturesShown held folder (take (suc n) hosts) →
    slice_get hosts n ≡ Some host → IsCaptureShown held folder host.capture
shown_at held folder [] n host told stands = absurd (none-some host stands)
shown_at held folder (h ∷ hosts) zero host told stands =
    subst (λ (x : Host). IsCaptureShown held folder x.capture) (same_Some h host stands) (All-head (λ h. IsCaptureShown held folder h.capture) h [] told)
shown_at held folder (h ∷ hosts) (suc n) host told stands =
    shown_at held folder hosts n host (All-tail (λ h. IsCaptureShown held folder h.capture) h (take (suc n) hosts) told) stands

shown_before : (held : List ℕ → Held) (folder : List ℕ) (hosts : List Host) (n m : ℕ) → n ≤ m → AreCapturesShown held folder (take m hosts) → AreCapturesShown held folder (take n hosts)
shown_before held folder hosts n m le told =
    subst (λ hs. AreCapturesShown held folder hs) (take-take n m hosts le) (All-take (λ h. IsCaptureShown held folder h.capture) n (take m hosts) told)

in_front : (hosts : List Host) (n m : ℕ) (host : Host) → n < m → slice_get hosts n ≡ Some host → slice_get (take m hosts) n ≡ Some host
in_front [] n m host lt stands = absurd (none-some host stands)
in_front (h ∷ hosts) n zero host lt stands = absurd (omega arith)
in_front (h ∷ hosts) zero (suc m) host lt stands = stands
in_front (h ∷ hosts) (suc n) (suc m) host lt stands = in_front hosts n m host (omega arith) stands

-- where all captures are accepted, none stops
pub none_stops : (held : List ℕ → Held) (folder : List ℕ) (hosts : List Host) (n : ℕ) (host : Host) (c : ComesTo held folder hosts n host) →
    AreCapturesShown held folder (take (suc n) hosts) → (files : List (List ℕ)) → AreCaptures held folder hosts files → all_bytes files ≤ captures_limit →
    IsStop held folder host c.files → ⊥
none_stops held folder hosts n host c told files are limit stop =
    no_stop held folder host c.files (all_bytes files) limit (shown_at held folder hosts n host told c.stands)
    (accepted held folder hosts n host files c.files (shown_before held folder hosts n (suc n) (omega arith) told) are c.earlier c.stands) stop

-- nor does one before the first that does
none_before : (held : List ℕ → Held) (folder : List ℕ) (hosts : List Host) (n m : ℕ) (host other : Host) (c : ComesTo held folder hosts n host) →
    ComesTo held folder hosts m other → AreCapturesShown held folder (take (suc n) hosts) → n < m → IsStop held folder host c.files → ⊥
none_before held folder hosts n m host other c d told lt stop =
    let front : take n hosts ≡ take n (take m hosts) = sym (take-take n m hosts (omega arith)) in
    no_stop held folder host c.files (all_bytes d.files) d.limit (shown_at held folder hosts n host told c.stands)
    (accepted held folder (take m hosts) n host d.files c.files
    (subst (λ hs. AreCapturesShown held folder hs) front (shown_before held folder hosts n (suc n) (omega arith) told)) d.earlier
    (subst (λ hs. AreCaptures held folder hs c.files) front c.earlier) (in_front hosts n m host lt c.stands)) stop

pub one_stop : (held : List ℕ → Held) (folder : List ℕ) (hosts : List Host) (n m : ℕ) (host other : Host) (c : ComesTo held folder hosts n host)
    (d : ComesTo held folder hosts m other) → AreCapturesShown held folder (take (suc n) hosts) → IsStop held folder host c.files → IsStop held folder other d.files → n ≡ m
one_stop held folder hosts n m host other c d told stop stopped = elim (cases_lt n m) [
  | inl lt ↦ absurd (none_before held folder hosts n m host other c d told lt stop)
  | inr ge ↦ elim (cases_lt m n) [
    | inl lt ↦ absurd (none_before held folder hosts m n other host d c (shown_before held folder hosts (suc m) (suc n) (omega arith) told) lt stopped)
    | inr le ↦ omega arith
  ]
]

one_front : (held : List ℕ → Held) (folder : List ℕ) (hosts : List Host) (n m : ℕ) (host other : Host) (c : ComesTo held folder hosts n host)
    (d : ComesTo held folder hosts m other) → AreCapturesShown held folder (take (suc n) hosts) → n ≡ m → c.files ≡ d.files
one_front held folder hosts n m host other c d told at =
    one_list held folder (take n hosts) (shown_before held folder hosts n (suc n) (omega arith) told) c.files d.files c.earlier
    (subst (λ k. AreCaptures held folder (take k hosts) d.files) (sym at) d.earlier)

one_host : (hosts : List Host) (n m : ℕ) (host other : Host) → slice_get hosts n ≡ Some host → slice_get hosts m ≡ Some other → n ≡ m → host ≡ other
one_host hosts n m host other is was at = same_Some host other (sym is ∙ ap (slice_get hosts) at ∙ was)

-- how the first of them fails
pub long_stop : (held : List ℕ → Held) (folder : List ℕ) (hosts : List Host) (name : List ℕ) (m : IsTooMuch held folder hosts name) →
    IsStop held folder m.host m.comes.files
long_stop held folder hosts name m =
    inr (m.file, m.names, subst (λ n. IsLonger (held n) (captures_limit - all_bytes m.comes.files)) m.is m.longer)

pub refused_stop : (held : List ℕ → Held) (folder : List ℕ) (hosts : List Host) (n : ℕ) (e : CaptureFault) (r : IsRefusedCapture held folder hosts n e) →
    IsStop held folder r.host r.comes.files
refused_stop held folder hosts n e r = inl (r.file, e, r.is, r.refused)

-- one capture is not both refused and too long
pub refused_not_long : (held : List ℕ → Held) (folder : List ℕ) (hosts : List Host) (n : ℕ) (e : CaptureFault) (name : List ℕ) → IsRefusedCapture held folder hosts n e →
    (m : IsTooMuch held folder hosts name) → AreCapturesShown held folder (take (suc n) hosts) → n ≡ m.n → ⊥
refused_not_long held folder hosts n e name r m told at =
    let host : r.host ≡ m.host = one_host hosts n m.n r.host m.host r.comes.stands m.comes.stands at in
    let names : r.host.capture ≡ Some m.file = ap (λ (h : Host). h.capture) host ∙ m.names in
    let front : m.comes.files ≡ r.comes.files = sym (one_front held folder hosts n m.n r.host m.host r.comes m.comes told at) in
    not_longer held (in_folder folder m.file) (subst (λ c. IsCaptureShown held folder c) names (shown_at held folder hosts n r.host told r.comes.stands)) r.file
    (captures_limit - all_bytes r.comes.files) (subst (λ c. IsCaptureAt held folder c r.file) names r.is) r.limit
    (subst (λ fs. IsLonger (held (in_folder folder m.file)) (captures_limit - all_bytes fs)) front
    (subst (λ q. IsLonger (held q) (captures_limit - all_bytes m.comes.files)) m.is m.longer))

-- it is refused for one reason
pub one_reason : (held : List ℕ → Held) (folder : List ℕ) (hosts : List Host) (n m : ℕ) (e f : CaptureFault) → IsRefusedCapture held folder hosts n e →
    IsRefusedCapture held folder hosts m f → AreCapturesShown held folder (take (suc n) hosts) → n ≡ m → e ≡ f
one_reason held folder hosts n m e f r s told at =
    let host : r.host ≡ s.host = one_host hosts n m r.host s.host r.comes.stands s.comes.stands at in
    let same : r.file ≡ s.file = one_capture held folder r.host.capture (shown_at held folder hosts n r.host told r.comes.stands) r.file s.file r.is
    (subst (λ (h : Host). IsCaptureAt held folder h.capture s.file) (sym host) s.is) in
    one_err (reading_of r.file) e f r.refused (ap reading_of same ∙ s.refused)

-- it has one name
pub one_name : (held : List ℕ → Held) (folder : List ℕ) (hosts : List Host) (name other : List ℕ) (m : IsTooMuch held folder hosts name)
    (l : IsTooMuch held folder hosts other) → m.n ≡ l.n → name ≡ other
one_name held folder hosts name other m l at =
    let host : m.host ≡ l.host = one_host hosts m.n l.n m.host l.host m.comes.stands l.comes.stands at in
    let file : m.file ≡ l.file = same_Some m.file l.file (sym m.names ∙ ap (λ (h : Host). h.capture) host ∙ l.names) in
    m.is ∙ ap (in_folder folder) file ∙ sym l.is
