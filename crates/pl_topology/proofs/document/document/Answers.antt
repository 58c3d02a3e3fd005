use Rattle.std.proofs.Common.{◌≡◌, refl, sym, ◌∙◌, true, false}
use Rattle.toml.specs.Errors.{IsMemory}
use Rattle.pl_topology.proofs.DocumentLemmas.{document_of-parsed, document_of-refused}
use Rattle.pl_topology.proofs.document.document.Goals as goal

pub returns-in-Ok : goal.returns-in-Ok
returns-in-Ok c = rw (document_of-parsed c.args.file.now _ c.in-Ok.ensures.ok.0 c.in-Ok.ensures.ok.1) refl

pub returns-in-Err-2 : goal.returns-in-Err-2
returns-in-Err-2 c =
    let other : IsMemory c.in-Err.e → ⊥ = λ memory. let contrary : false ≡ true = sym c.if-is_memory.false ∙ c.is_memory.ensures.1 memory in cc in
    rw (document_of-refused c.args.file.now (c.in-Err.ensures.refused other)) refl
