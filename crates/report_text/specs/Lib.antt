pub mod FrameText
pub mod Internal
pub mod PictureText
pub mod Report
