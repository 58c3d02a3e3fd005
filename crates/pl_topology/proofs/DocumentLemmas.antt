-- Which bytes are a document.
use Rattle.std.proofs.Common.{◌≡◌, List, ℕ, Some, None, refl, inl, inr}
use Rattle.std.specs.Str.{IsUtf8, is_utf8}
use Rattle.std.proofs.lemmas.Bool.{cases_Bool}
use Rattle.std.proofs.lemmas.Str.{IsUtf8-from_is_utf8, is_utf8-from_IsUtf8}
use Rattle.toml.specs.Data.{Members}
use Rattle.toml.specs.Parse.{parse_document}
use Rattle.pl_topology.specs.Document.{document_of}

pub document_of-parsed : (file : List ℕ) (found : Members) → IsUtf8 file → parse_document file ≡ Some found → document_of file ≡ Some found
unfolding document_of
document_of-parsed file found text parsed = rw (is_utf8-from_IsUtf8 file text) parsed

pub document_of-refused : (file : List ℕ) → (IsUtf8 file → parse_document file ≡ None) → document_of file ≡ None
unfolding document_of
document_of-refused file refused = elim (cases_Bool (is_utf8 file)) [
  | inl text ↦ rw text (refused (IsUtf8-from_is_utf8 file text))
  | inr other ↦ rw other refl
]
