-- Six pieces are written one after the other, and what was written is these pieces so far.
use Rattle.target_lexicon.proofs.display.PiecesDisplay.fmt.Goals.{in-Some+in_ok-write_str-2, in_default}
use Rattle.target_lexicon.proofs.{HasWrittenStyled, has_written_styled_append, has_written_styled_nil, version_suffix}
use Rattle.target_lexicon.proofs.{rules}
use Rattle.target_lexicon.proofs.display.PiecesDisplay.fmt.Goals as goal

pub returns-clause-styled : goal.returns-clause-styled
returns-clause-styled g c = λ flush ok.
    let first = c.write_str.ensures.styled flush (search rules) in
    let vendor = c.write_piece.ensures first.flush (search rules) in
    let system = c.write_piece-2.ensures vendor.flush (search rules) in
    let version : HasWrittenStyled g.W.Write.write_str_gives c.write_piece-2.new.f
    (version_suffix c.args.self.now.version) c.match-self.f =
    elim c.match-self.branch [
      | in-Some+in_ok-write_str-2 w ↦
          rw (w.f-is, w.in-Some.is)
          (rw w.version_text.ensures.text at (w.write_str-in-Some.ensures.styled system.flush (search rules)))
      | in_default w ↦ rw (w.f-is, w.in_default.is) (has_written_styled_nil _ _ system.flush)
    ] in
    let environment = c.write_piece-3.ensures version.flush (search rules) in
    let binary_format = c.write_piece-4.ensures environment.flush ok in
    has_written_styled_append _ _ _ _ _ _ (has_written_styled_append _ _ _ _ _ _ (has_written_styled_append _ _ _ _ _ _
    (has_written_styled_append _ _ _ _ _ _ (has_written_styled_append _ _ _ _ _ _ first vendor) system) version)
    environment) binary_format

pub returns-clause-writes : goal.returns-clause-writes
returns-clause-writes g c = search (rules, returns-clause-styled)
