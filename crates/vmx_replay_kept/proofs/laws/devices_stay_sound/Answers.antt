use Rattle.vmx_replay_kept.proofs.Kept.{made_sound, sends_sound, looks_sound, polls_sound, follows_sound, renews_sound, closes_sound}
use Rattle.vmx_replay_kept.proofs.laws.devices_stay_sound.Goals as goal

pub returns : goal.returns
returns c = record { new = made_sound; sends = sends_sound; looks = looks_sound; polls = polls_sound; follows = follows_sound; renews = renews_sound; closes = closes_sound }
