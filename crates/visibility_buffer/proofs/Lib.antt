mod CachedPoints
mod DrawnTriangle
mod Greatest
