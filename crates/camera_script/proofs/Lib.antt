mod Examples
pub mod MemberCounts
pub mod ReadTexts
pub mod SoundScripts
