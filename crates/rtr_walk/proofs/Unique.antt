-- What `walk` promises leaves one result: level, end, number and values tell each answer apart. Assumes nothing.
use Rattle.std.specs.Prelude.{Result, Ok, Err, ℕ}
use mathlib.Core.Path.{◌≡◌, refl, ap, ◌∙◌}
use Rattle.rtr_base.proofs.Unique.{only_one}
use Rattle.rtr_codec.specs.declared.RtrError.{RtrError}
use Rattle.rtr_codec.specs.Read.{Verdict}
use Rattle.rtr_codec.specs.Answers.{refusal}
use Rattle.rtr_codec.proofs.Laws.{refusal_is}
use Rattle.rtr_codec.proofs.Unique.{error_of, refusal-back}
use Rattle.rtr_walk.specs.Walk.{End, WalkVerdict, refused_walk, walk_said}
use Rattle.rtr_walk.specs.Walk.End.{plain, empty, refused_by, too_deep}
use Rattle.rtr_walk.specs.Walk.WalkVerdict.{walked, refused}
use Rattle.rtr_walk.specs.declared.WalkEnd.{WalkEnd}
use Rattle.rtr_walk.proofs.walk.Reads as reads

end_of : End → WalkEnd
end_of (plain type) = WalkEnd.Plain type
end_of empty = WalkEnd.Empty
end_of (refused_by number) = WalkEnd.Refused number
end_of too_deep = WalkEnd.TooDeep

-- the answer that says this
answer_of : WalkVerdict → Result (ℕ × WalkEnd) RtrError
answer_of (walked level end) = Ok (level, (end_of end))
answer_of (refused k x) = Err (error_of k x)

refused-back : (e : RtrError) → answer_of (refused_walk (refusal e)) ≡ Err e
unfolding answer_of
refused-back e = ap (λ (v : Verdict). answer_of (refused_walk v)) (refusal_is e).1 ∙ ap Err (refusal-back e _ _ (refusal_is e).1)

walk-back : (a : Result (ℕ × WalkEnd) RtrError) → answer_of (walk_said a) ≡ a
unfolding answer_of end_of
walk-back (Ok (level, (WalkEnd.Plain type))) = refl
walk-back (Ok (level, WalkEnd.Empty)) = refl
walk-back (Ok (level, (WalkEnd.Refused number))) = refl
walk-back (Ok (level, WalkEnd.TooDeep)) = refl
walk-back (Err e) = refused-back e

pub walk-unique : (κs : _) (a : _) (r r' : _) (s s' : _) → reads.Post κs a r s → reads.Post κs a r' s' → r ≡ r'
walk-unique κs a r r' s s' p q = only_one walk_said answer_of walk-back r r' _ p q
