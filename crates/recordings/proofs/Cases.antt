-- The choice by cases, computed. Assumes nothing.
use mathlib.Core.Path.{refl}
use Rattle.frames.specs.Kind.{is_grade}
use Rattle.samples.specs.Sample.{is_fit, all_fit}
use Rattle.near_frames.specs.Near.{near_kind}
use Rattle.recordings.specs.Recording.{recording_number}
use Rattle.recordings.specs.Choice.{closer, choice}
use Rattle.recordings.specs.Cases.{CloserCases, RefusedCases}

pub closer-cases : CloserCases
unfolding closer
closer-cases = record { first = refl; second = refl; equal = refl }

pub refused-cases : RefusedCases
unfolding choice recording_number near_kind is_grade all_fit is_fit
refused-cases = record { kind = refl; kind-alone = refl; grade = refl; length = refl; unfit = refl; empty = refl }
