use Rattle.std.proofs.Common.{Bool, ℕ, Ok, Err, nat_lt, sym, ap, subst, ◌∙◌, arith}
use Rattle.line_words.specs.Told.{Checks}
use Rattle.word_tables.specs.declared.geometry.Geometry.{Geometry}
use Rattle.word_tables.specs.Layout.{meta_lines}
use Rattle.nvm_model.specs.Lines.{AreGood}
use Rattle.nvm_model.proofs.TouchedPageLemmas.{touches_absent-some}
use Rattle.page_lines.proofs.ResultLemmas.{checks_found, checks_second}
use Rattle.file_pages.specs.Object.{pages_there}
use Rattle.file_pages.specs.Refusals.{full_refusal, metadata_refusal_if, page_says}
use Rattle.file_pages.proofs.PassLemmas.{holes_are, storable, stores_checked}
use Rattle.file_pages.proofs.checks.check_store.Goals as goal

pub returns-in_err-check_bytes-clause-refused : goal.returns-in_err-check_bytes-clause-refused
returns-in_err-check_bytes-clause-refused g c = λ files file at.
    let m = (g.L.Lines.state c.args.dev.now).medium in
    let s = c.args.journal.now in
    stores_checked s m c.args.inode c.in_err-check_bytes.ensures.tables c.args.span c.from_residual.result files file at
    (checks_found page_says _ _ _ _ c.in_err-check_bytes.field-0.0 c.from_residual.result c.from_residual.ensures.1 c.in_err-check_bytes.ensures.refused)

pub returns-in_err-check_room-clause-refused : goal.returns-in_err-check_room-clause-refused
returns-in_err-check_room-clause-refused g c = λ files file at.
    let m = (g.L.Lines.state c.args.dev.now).medium in
    let s = c.args.journal.now in
    let r = c.from_residual-in_err-check_room.result in
    let holes = holes_are (pages_there s c.args.inode) c.args.span c.pages_of.result c.hole_count-holes.result c.pages_of.ensures.value c.hole_count-holes.ensures.holes in
    stores_checked s m c.args.inode c.in_ok-check_bytes.ensures.tables c.args.span r files file at
    (checks_second page_says _ _ tt r c.in_ok-check_bytes.ensures.refused
    (checks_found page_says _ _ _ _ c.in_err-check_room.field-0.0 r c.from_residual-in_err-check_room.ensures.1
    (subst (λ (n : ℕ). Checks {T = Unit {0}} page_says (full_refusal s n) (Err c.in_err-check_room.field-0.0)) holes c.in_err-check_room.ensures.refused)))

pub returns-in_err-check_meta-clause-refused : goal.returns-in_err-check_meta-clause-refused
returns-in_err-check_meta-clause-refused g c = λ files file at.
    let m = (g.L.Lines.state c.args.dev.now).medium in
    let s = c.args.journal.now in
    let r = c.from_residual-in_err-check_meta.result in
    let holes = holes_are (pages_there s c.args.inode) c.args.span c.pages_of.result c.hole_count-holes.result c.pages_of.ensures.value c.hole_count-holes.ensures.holes in
    let changes = ap (nat_lt 0) holes ∙ sym (touches_absent-some c.args.span.start c.args.span.len (pages_there s c.args.inode) c.in_ok-check_bytes.ensures.some) in
    stores_checked s m c.args.inode c.in_ok-check_bytes.ensures.tables c.args.span r files file at
    (checks_second page_says _ _ tt r c.in_ok-check_bytes.ensures.refused
    (checks_second page_says _ _ tt r (subst (λ (n : ℕ). Checks {T = Unit {0}} page_says (full_refusal s n) (Ok tt)) holes c.in_ok-check_room.ensures.refused)
    (checks_found page_says _ _ _ _ c.in_err-check_meta.field-0.0 r c.from_residual-in_err-check_meta.ensures.1
    (subst (λ (b : Bool). Checks {T = Unit {0}} page_says (metadata_refusal_if b s.geo m) (Err c.in_err-check_meta.field-0.0)) changes
    (subst (λ (geo : Geometry). Checks {T = Unit {0}} page_says (metadata_refusal_if (nat_lt 0 c.hole_count-holes.result) geo m) (Err c.in_err-check_meta.field-0.0)) c.geometry.ensures.geometry c.in_err-check_meta.ensures.refused)))))

pub returns-clause-refused : goal.returns-clause-refused
returns-clause-refused g c = λ files file at.
    let m = (g.L.Lines.state c.args.dev.now).medium in
    let s = c.args.journal.now in
    let r = c.check_lines.result in
    let holes = holes_are (pages_there s c.args.inode) c.args.span c.pages_of.result c.hole_count-holes.result c.pages_of.ensures.value c.hole_count-holes.ensures.holes in
    let changes = ap (nat_lt 0) holes ∙ sym (touches_absent-some c.args.span.start c.args.span.len (pages_there s c.args.inode) c.in_ok-check_bytes.ensures.some) in
    stores_checked s m c.args.inode c.in_ok-check_bytes.ensures.tables c.args.span r files file at
    (checks_second page_says _ _ tt r c.in_ok-check_bytes.ensures.refused
    (checks_second page_says _ _ tt r (subst (λ (n : ℕ). Checks {T = Unit {0}} page_says (full_refusal s n) (Ok tt)) holes c.in_ok-check_room.ensures.refused)
    (checks_second page_says _ _ tt r
    (subst (λ (b : Bool). Checks {T = Unit {0}} page_says (metadata_refusal_if b s.geo m) (Ok tt)) changes
    (subst (λ (geo : Geometry). Checks {T = Unit {0}} page_says (metadata_refusal_if (nat_lt 0 c.hole_count-holes.result) geo m) (Ok tt)) c.geometry.ensures.geometry c.in_ok-check_meta.ensures.refused))
    c.check_lines.ensures.refused)))

pub returns-clause-storable : goal.returns-clause-storable
returns-clause-storable g c =
    let m = (g.L.Lines.state c.args.dev.now).medium in
    let s = c.args.journal.now in
    let holes = holes_are (pages_there s c.args.inode) c.args.span c.pages_of.result c.hole_count-holes.result c.pages_of.ensures.value c.hole_count-holes.ensures.holes in
    let changes = ap (nat_lt 0) holes ∙ sym (touches_absent-some c.args.span.start c.args.span.len (pages_there s c.args.inode) c.in_ok-check_bytes.ensures.some) in
    storable s m c.args.inode c.in_ok-check_bytes.ensures.tables c.args.span c.check_lines.result c.in_ok-check_bytes.ensures.some c.in_ok-check_bytes.ensures.within
    (omega (arith, c.in_ok-check_room.ensures.room, holes))
    (λ absent. subst (λ (geo : Geometry). AreGood m (meta_lines geo)) c.geometry.ensures.geometry (c.in_ok-check_meta.ensures.good (changes ∙ absent)))
    c.check_lines.ensures.refused
